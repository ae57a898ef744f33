use Rattle.std.proofs.Common.{refl}
use Rattle.std.proofs.lemmas.List.{append-nil}
use Rattle.rx_exec_messages.specs.Operations.{operation_message_fields, operation_message_from}
use Rattle.rx_codec.proofs.ContentLaws.{contents-append, contents-numbered, some_unit, text_again}
use Rattle.rx_codec.proofs.ContentLaws.{truth_again}
use Rattle.rx_exec_messages.proofs.operations.OperationMessageMessage.write.Goals as goal

pub returns-clause-again : goal.returns-clause-again
unfolding operation_message_fields operation_message_from
returns-clause-again c = λ ok can.
    let x = c.args.self.now in
    simp (contents-append, contents-numbered, append-nil) (
    rw (
      text_again x.name,
      c.in_ok-message.ensures.again refl (some_unit x.metadata),
      truth_again x.done,
      c.in_ok-message-2.ensures.again refl (some_unit x.error),
      c.message-3.ensures.again ok (some_unit x.response),
    ) refl
    )
