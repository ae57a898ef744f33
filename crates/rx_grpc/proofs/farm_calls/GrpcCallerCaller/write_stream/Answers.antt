use Rattle.rx_grpc.proofs.farm_calls.GrpcCallerCaller.write_stream.Goals as goal

pub returns-clause-stays : goal.returns-clause-stays
returns-clause-stays g c = c.hear_write.ensures.stays g.W.World.blob g.W.World.operation g.D.Dial.dialect
