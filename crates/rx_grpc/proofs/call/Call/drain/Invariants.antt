use Rattle.std.proofs.Common.{length}
use Rattle.rx_grpc.specs.Conversation.{Drains}
use Rattle.rx_grpc.proofs.call.Call.drain.Given as goal

abbrev pub invariant-loop-event : goal.invariant-loop-event
invariant-loop-event l = Drains l.fn.conn l.conn l.fn.self l.self

abbrev pub decreases-loop-event : goal.decreases-loop-event
decreases-loop-event l = length l.conn.state.events
