use Rattle.std.proofs.Common.{Err, ap, refl, ◌∙◌}
use Rattle.rx_codec.specs.FieldBytes.{fields_bytes}
use Rattle.rx_exec_messages.specs.Executions.{execute_request_fields}
use Rattle.rx_exec_messages.specs.declared.executions.ExecuteRequest.{ExecuteRequest}
use Rattle.rx_grpc.specs.declared.method.Method.TheVariants.{Execute}
use Rattle.rx_grpc.specs.declared.transfer_fault.TransferFault.TheVariants.{NoMemory}
use Rattle.rx_grpc.specs.Questions.{asks_execute, one}
use Rattle.rx_grpc.proofs.AskedLemmas.{items-same}
use Rattle.rx_grpc.proofs.HonestLemmas.{counted-honest}
use Rattle.rx_grpc.proofs.StreamedLemmas.{nothing-came, unbegun}
use Rattle.rx_grpc.proofs.caller.GrpcCaller.hear_execute.Goals as goal

pub returns-in_default-clause-heard : goal.returns-in_default-clause-heard
returns-in_default-clause-heard g c =
    nothing-came g.D.Dial.faults g.D.Dial.rule g.D.L.Link (asks_execute c.args.self.now.instance c.args.action.now c.args.skip_cache) c.args.self.now.channel c.args.self.now.channel (Err NoMemory) _ (unbegun g.D.Dial.faults g.D.Dial.rule g.D.L.Link (asks_execute c.args.self.now.instance c.args.action.now c.args.skip_cache) c.args.self.now.channel) (λ other. absurd (other refl))

pub returns-clause-heard : goal.returns-clause-heard
returns-clause-heard g c =
    let asked =
    ap (λ (question : ExecuteRequest). one Execute (fields_bytes (execute_request_fields question))) c.in-Ok.ensures
    ∙ ap (λ x. asks_execute x.instance c.args.action.now c.args.skip_cache) c.self.view_is in
    rw (c.count_fault.ensures.same, c.count_fault.ensures.rest) (items-same g.D.Dial.faults g.D.Dial.rule g.D.L.Link _ _ _ _ _ asked c.start-answer.ensures.heard)

pub returns-clause-stays : goal.returns-clause-stays
returns-clause-stays g c = rw c.count_fault.ensures.rest (counted-honest g.D.Dial.rule _ c.start-answer.new.self _ c.start-answer.ensures.stays)

pub start-answer-requires : goal.start-answer-requires
start-answer-requires g c = (
  c.args.skip_cache,
  ap (λ (question : ExecuteRequest). one Execute (fields_bytes (execute_request_fields question))) c.in-Ok.ensures
      ∙ ap (λ x. asks_execute x.instance c.args.action.now c.args.skip_cache) c.self.view_is,
)
