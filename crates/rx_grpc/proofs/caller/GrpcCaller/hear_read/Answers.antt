use Rattle.std.proofs.Common.{refl, ◌≡◌, length}
use Rattle.rx_grpc.specs.Results.{read_by}
use Rattle.rx_grpc.proofs.RefusedLemmas.{ok-by, read-by-long, read-by-refused, refused-by}
use Rattle.rx_grpc.proofs.HonestLemmas.{read-honest, stays-honest}
use Rattle.rx_grpc.proofs.caller.GrpcCaller.hear_read.Goals as goal

pub returns-clause-each : goal.returns-clause-each
returns-clause-each g c =
    let h = c.ask_read-answer.ensures in
    let asked = c.args.digests.now in
    rw c.count_fault.ensures.same (ok-by (λ texts. length texts ≡ length asked) c.ask_read-answer.result (read_by asked h.heard) h.is_such (read-by-long asked h.heard))

pub returns-clause-refused : goal.returns-clause-refused
returns-clause-refused g c =
    let h = c.ask_read-answer.ensures in
    let asked = c.args.digests.now in
    rw c.count_fault.ensures.same (refused-by (λ x. x) asked c.ask_read-answer.result (read_by asked h.heard) h.is_such (read-by-refused asked h.heard))

pub returns-clause-honest : goal.returns-clause-honest
returns-clause-honest g c =
    rw (← c.self.view_is, c.count_fault.ensures.same) (read-honest g.D.Dial.faults g.D.Dial.rule g.D.L.Link (record { channel = c.self.inside.channel; instance = c.self.inside.instance; begun = c.self.inside.begun; first = c.self.inside.first; streaming = c.self.inside.streaming; faults = c.self.inside.faults }) c.ask_read-answer.new.channel c.args.digests.now c.ask_read-answer.result c.ask_read-answer.ensures)

pub returns-clause-stays : goal.returns-clause-stays
returns-clause-stays g c = rw (← c.self.view_is, c.count_fault.ensures.rest) (stays-honest g.D.Dial.rule _ _ c.ask_read-answer.ensures.keeps refl)
