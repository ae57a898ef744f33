use Rattle.rx_hpack.specs.Header.{views}
use Rattle.rx_h2conn.specs.State.{state_of}
use Rattle.rx_h2conn.specs.Open.{refusal, opened, next_id}
use Rattle.rx_h2conn.proofs.HeldLemmas.{held_opened, held_answered}
use Rattle.rx_h2conn.proofs.conn.Conn.open_stream.Goals as goal

pub returns-clause-held : goal.returns-clause-held
returns-clause-held c =
    let s = state_of c.self.inside.reader.machine in
    let fields = views c.args.headers.now in
    held_answered (refusal s) s (opened s fields c.args.last) (state_of c.open_stream.new.self.machine) (next_id s) c.open_stream.result (λ id. id) (λ _. c.args.last) c.open_stream.ensures.answers (λ none. held_opened s fields c.args.last)
