use Rattle.rx_grpc.proofs.EachAnswer.{each-ok, each-some}
use Rattle.rx_grpc.proofs.farm_calls.GrpcCallerCaller.next_operation.Goals as goal

pub returns-clause-agrees : goal.returns-clause-agrees
returns-clause-agrees g c = each-ok _ _ c.hear_operation.result (λ state. each-some _ _ state.done (λ response agrees. agrees g.W.World.blob g.W.World.operation)) c.hear_operation.ensures.agrees

pub returns-clause-named : goal.returns-clause-named
returns-clause-named g c = each-ok _ _ c.hear_operation.result (λ state h. h g.W.World.blob g.W.World.operation g.D.Dial.dialect) c.hear_operation.ensures.named

pub returns-clause-stays : goal.returns-clause-stays
returns-clause-stays g c = c.hear_operation.ensures.stays g.W.World.blob g.W.World.operation g.D.Dial.dialect
