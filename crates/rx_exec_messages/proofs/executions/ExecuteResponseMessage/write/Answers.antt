use Rattle.std.proofs.Common.{refl}
use Rattle.std.proofs.lemmas.List.{append-nil}
use Rattle.rx_exec_messages.specs.Executions.{execute_response_fields, execute_response_from}
use Rattle.rx_codec.proofs.ContentLaws.{contents-append, contents-numbered, some_unit, text_again}
use Rattle.rx_codec.proofs.ContentLaws.{truth_again}
use Rattle.rx_exec_messages.proofs.executions.ExecuteResponseMessage.write.Goals as goal

pub returns-clause-again : goal.returns-clause-again
unfolding execute_response_fields execute_response_from
returns-clause-again c = λ ok can.
    let x = c.args.self.now in
    simp (contents-append, contents-numbered, append-nil) (
    rw (
      c.in_ok-message.ensures.again refl can,
      truth_again x.cached_result,
      c.in_ok-message-2.ensures.again refl (some_unit x.status),
      text_again x.message,
    ) refl
    )
