use Rattle.std.proofs.Common.{refl}
use Rattle.std.proofs.lemmas.List.{append-nil}
use Rattle.rx_exec_messages.specs.Executions.{get_action_result_request_fields}
use Rattle.rx_exec_messages.specs.Executions.{get_action_result_request_from}
use Rattle.rx_codec.proofs.ContentLaws.{contents-append, contents-numbered, text_again, texts_again}
use Rattle.rx_codec.proofs.ContentLaws.{truth_again}
use Rattle.rx_exec_messages.proofs.executions.GetActionResultRequestMessage.write.Goals as goal

pub returns-clause-again : goal.returns-clause-again
unfolding get_action_result_request_fields get_action_result_request_from
returns-clause-again c = λ ok can.
    let x = c.args.self.now in
    simp (contents-append, contents-numbered, append-nil) (
    rw (
      text_again x.instance_name,
      c.in_ok-message.ensures.again refl can,
      truth_again x.inline_stdout,
      truth_again x.inline_stderr,
      texts_again x.inline_output_files,
    ) refl
    )
