use Rattle.rx_grpc.proofs.farm_calls.GrpcCallerCaller.execute.Goals as goal

pub returns-clause-stays : goal.returns-clause-stays
returns-clause-stays g c = c.hear_execute.ensures.stays g.W.World.blob g.W.World.operation g.D.Dial.dialect
