use Rattle.std.proofs.Common.{refl}
use Rattle.rx_hpack.specs.Header.{views}
use Rattle.rx_h2conn.specs.Open.{refusal}
use Rattle.rx_grpc.proofs.StreamLemmas.{opens_next}
use Rattle.rx_grpc.proofs.stream.next_stream.Goals as goal

pub returns-in-Ok-clause-opened : goal.returns-in-Ok-clause-opened
returns-in-Ok-clause-opened c =
    (opens_next (refusal c.give_up.new.conn.state) c.args.conn.now c.give_up.new.conn c.open_stream.new.self (views c.args.headers.now) c.in-Ok.id refl c.in_ok-give_up.ensures.given c.in-Ok.ensures.answers c.in-Ok.ensures.rest c.in-Ok.ensures.held).0
