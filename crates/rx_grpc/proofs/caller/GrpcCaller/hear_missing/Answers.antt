use Rattle.rx_exec_messages.specs.Calls.{IsPartOf}
use Rattle.rx_grpc.specs.Results.{missing_by}
use Rattle.rx_grpc.proofs.RefusedLemmas.{missing-by-part, ok-by}
use Rattle.std.proofs.Common.{refl}
use Rattle.rx_grpc.proofs.HonestLemmas.{stays-honest}
use Rattle.rx_grpc.proofs.caller.GrpcCaller.hear_missing.Goals as goal

pub returns-clause-part : goal.returns-clause-part
returns-clause-part g c =
    let h = c.ask_missing-answer.ensures in
    rw c.count_fault.ensures.same (ok-by (λ missing. IsPartOf missing c.args.digests.now) c.ask_missing-answer.result (missing_by c.args.digests.now h.heard) h.is_such (missing-by-part c.args.digests.now h.heard))

pub returns-clause-stays : goal.returns-clause-stays
returns-clause-stays g c = rw (← c.self.view_is, c.count_fault.ensures.rest) (stays-honest g.D.Dial.rule _ _ c.ask_missing-answer.ensures.keeps refl)
