use Rattle.rx_grpc.specs.Answer.{unary}
use Rattle.rx_grpc.proofs.TalkLemmas.{IsTalking}
use Rattle.rx_grpc.proofs.talk.answer_of.Given as goal

abbrev pub invariant-loop-opened : goal.invariant-loop-opened
invariant-loop-opened g l = IsTalking unary (g.L.Link.wire l.fn.link) (g.L.Link.wire l.link) (g.L.Link.rule l.fn.link) (g.L.Link.rule l.link) (g.L.Link.ended l.link) l.fn.conn l.conn l.fn.opened l.opened (g.L.Link.faults l.fn.link) (g.L.Link.faults l.link) (g.B.Body.messages l.fn.body) (g.B.Body.messages l.body)

abbrev pub decreases-loop-opened : goal.decreases-loop-opened
decreases-loop-opened g l = l.opened.room
