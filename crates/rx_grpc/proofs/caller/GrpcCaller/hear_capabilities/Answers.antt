use Rattle.std.proofs.Common.{refl}
use Rattle.rx_grpc.proofs.HonestLemmas.{versions-honest, stays-honest}
use Rattle.rx_grpc.proofs.caller.GrpcCaller.hear_capabilities.Goals as goal

pub returns-clause-honest : goal.returns-clause-honest
returns-clause-honest g c =
    rw (← c.self.view_is, c.count_fault.ensures.same) (versions-honest g.D.Dial.faults g.D.Dial.rule g.D.L.Link (record { channel = c.self.inside.channel; instance = c.self.inside.instance; begun = c.self.inside.begun; first = c.self.inside.first; streaming = c.self.inside.streaming; faults = c.self.inside.faults }) c.ask_capabilities-answer.new.channel c.ask_capabilities-answer.result c.ask_capabilities-answer.ensures)

pub returns-clause-stays : goal.returns-clause-stays
returns-clause-stays g c = rw (← c.self.view_is, c.count_fault.ensures.rest) (stays-honest g.D.Dial.rule _ _ c.ask_capabilities-answer.ensures.keeps refl)
