use Rattle.rx_grpc.specs.Request.{to_come}
use Rattle.rx_grpc.proofs.GiveLemmas.{IsGiving}
use Rattle.rx_grpc.proofs.turn.give_body.Given as goal

abbrev pub invariant-loop-alloc : goal.invariant-loop-alloc
invariant-loop-alloc g l = IsGiving (g.L.Link.wire l.fn.link) (g.L.Link.wire l.link) (g.L.Link.rule l.fn.link) (g.L.Link.rule l.link) (g.L.Link.ended l.link) l.fn.conn l.conn l.fn.opened l.opened (g.L.Link.faults l.fn.link) (g.L.Link.faults l.link) (g.B.Body.messages l.fn.body) (g.B.Body.messages l.body)

abbrev pub decreases-loop-alloc : goal.decreases-loop-alloc
decreases-loop-alloc g l = to_come (g.B.Body.messages l.body) l.opened.request
