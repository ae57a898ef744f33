use Rattle.rx_grpc.proofs.EachAnswer.{each-ok}
use Rattle.rx_grpc.proofs.farm_calls.GrpcCallerCaller.capabilities.Goals as goal

pub returns-clause-honest : goal.returns-clause-honest
returns-clause-honest g c = each-ok _ _ c.hear_capabilities.result (λ told h. h g.W.World.blob g.W.World.operation g.D.Dial.dialect) c.hear_capabilities.ensures.honest

pub returns-clause-stays : goal.returns-clause-stays
returns-clause-stays g c = c.hear_capabilities.ensures.stays g.W.World.blob g.W.World.operation g.D.Dial.dialect
