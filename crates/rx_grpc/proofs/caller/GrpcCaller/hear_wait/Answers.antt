use Rattle.std.proofs.Common.{Err, ap, refl, sym, ◌∙◌}
use Rattle.rx_codec.specs.FieldBytes.{fields_bytes}
use Rattle.rx_exec_messages.specs.Executions.{wait_execution_request_fields}
use Rattle.rx_exec_messages.specs.declared.executions.WaitExecutionRequest.{WaitExecutionRequest}
use Rattle.rx_grpc.specs.declared.method.Method.TheVariants.{WaitExecution}
use Rattle.rx_grpc.specs.declared.transfer_fault.TransferFault.TheVariants.{NoMemory}
use Rattle.rx_grpc.specs.Questions.{asks_wait, one}
use Rattle.rx_grpc.proofs.AskedLemmas.{items-same}
use Rattle.rx_grpc.proofs.HonestLemmas.{counted-honest}
use Rattle.rx_grpc.proofs.StreamedLemmas.{nothing-came, unbegun}
use Rattle.rx_grpc.proofs.caller.GrpcCaller.hear_wait.Goals as goal

pub returns-in_default-clause-heard : goal.returns-in_default-clause-heard
returns-in_default-clause-heard g c =
    nothing-came g.D.Dial.faults g.D.Dial.rule g.D.L.Link (asks_wait c.args.name.now) c.args.self.now.channel c.args.self.now.channel (Err NoMemory) _ (unbegun g.D.Dial.faults g.D.Dial.rule g.D.L.Link (asks_wait c.args.name.now) c.args.self.now.channel) (λ other. absurd (other refl))

pub returns-clause-heard : goal.returns-clause-heard
returns-clause-heard g c =
    let asked = ap (λ (question : WaitExecutionRequest). one WaitExecution (fields_bytes (wait_execution_request_fields question))) c.in-Ok.ensures.asks in
    rw (c.count_fault.ensures.same, c.count_fault.ensures.rest) (items-same g.D.Dial.faults g.D.Dial.rule g.D.L.Link _ _ _ _ _ asked c.start-answer.ensures.heard)

pub returns-clause-stays : goal.returns-clause-stays
returns-clause-stays g c = rw c.count_fault.ensures.rest (counted-honest g.D.Dial.rule _ c.start-answer.new.self _ c.start-answer.ensures.stays)

pub start-answer-requires : goal.start-answer-requires
start-answer-requires g c =
    ap (λ (question : WaitExecutionRequest). one WaitExecution (fields_bytes (wait_execution_request_fields question))) c.in-Ok.ensures.asks ∙ ap asks_wait (sym c.in-Ok.ensures.name)
