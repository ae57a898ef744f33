use Rattle.rx_exec_messages.specs.Calls.{digests_of}
use Rattle.rx_grpc.specs.Results.{updated_by}
use Rattle.rx_grpc.proofs.RefusedLemmas.{refused-by, updated-refused}
use Rattle.std.proofs.Common.{refl}
use Rattle.rx_grpc.proofs.HonestLemmas.{stays-honest}
use Rattle.rx_grpc.proofs.caller.GrpcCaller.hear_update.Goals as goal

pub returns-clause-refused : goal.returns-clause-refused
returns-clause-refused g c =
    let h = c.ask_update-answer.ensures in
    let digests = digests_of c.args.blobs.now in
    rw c.count_fault.ensures.same (refused-by (λ x. x) digests c.ask_update-answer.result (updated_by digests h.heard) h.is_such (updated-refused digests h.heard))

pub returns-clause-stays : goal.returns-clause-stays
returns-clause-stays g c = rw (← c.self.view_is, c.count_fault.ensures.rest) (stays-honest g.D.Dial.rule _ _ c.ask_update-answer.ensures.keeps refl)
