use Rattle.std.proofs.Common.{[]}
use Rattle.rx_grpc.specs.Item.{item}
use Rattle.rx_grpc.proofs.TalkLemmas.{IsTalking}
use Rattle.rx_grpc.proofs.talk.item_behind_turns.Given as goal

abbrev pub invariant-loop-opened : goal.invariant-loop-opened
invariant-loop-opened g l = IsTalking item (g.L.Link.wire l.fn.link) (g.L.Link.wire l.link) (g.L.Link.rule l.fn.link) (g.L.Link.rule l.link) (g.L.Link.ended l.link) l.fn.conn l.conn l.fn.opened l.opened (g.L.Link.faults l.fn.link) (g.L.Link.faults l.link) [] []

abbrev pub decreases-loop-opened : goal.decreases-loop-opened
decreases-loop-opened g l = l.opened.room
