use Rattle.rx_grpc.proofs.EachAnswer.{each-ok, each-some}
use Rattle.rx_grpc.proofs.farm_calls.GrpcCallerCaller.get_result.Goals as goal

pub returns-clause-agrees : goal.returns-clause-agrees
returns-clause-agrees g c = each-ok _ _ c.hear_result.result (λ found. each-some _ _ found (λ r agrees. agrees g.W.World.blob g.W.World.operation)) c.hear_result.ensures.agrees

pub returns-clause-stays : goal.returns-clause-stays
returns-clause-stays g c = c.hear_result.ensures.stays g.W.World.blob g.W.World.operation g.D.Dial.dialect
