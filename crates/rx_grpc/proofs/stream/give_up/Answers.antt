use Rattle.std.proofs.Common.{refl}
use Rattle.rx_grpc.proofs.StreamLemmas.{gives_up}
use Rattle.rx_grpc.proofs.stream.give_up.Goals as goal

pub returns-in-Ok-clause-given : goal.returns-in-Ok-clause-given
returns-in-Ok-clause-given c = gives_up c.args.conn.now.state.fault c.args.conn.now c.reset.new.self c.in-Some.id 8 _ _ refl c.requires.fault c.in-Ok.ensures.answers c.in-Ok.ensures.rest
