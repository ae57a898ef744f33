use Rattle.std.proofs.Common.{refl}
use Rattle.std.proofs.lemmas.List.{append-nil}
use Rattle.rx_codec.proofs.ContentLaws.{contents-append, contents-numbered, joined_again, number_again, text_again}
use Rattle.rx_session.specs.ReplyMessages.{end_message_fields, end_message_from}
use Rattle.rx_session.proofs.end_message.EndMessageMessage.write.Goals as goal

pub returns-clause-again : goal.returns-clause-again
unfolding end_message_fields end_message_from
returns-clause-again c = λ ok can.
    let x = c.args.self.now in
    simp (contents-append, contents-numbered, append-nil) (
    rw (
      number_again x.attempt,
      number_again x.cause,
      number_again x.value,
      text_again x.path,
      c.in_ok-message.ensures.again refl can.0,
      c.in_ok-message-2.ensures.again refl can.1,
      joined_again x.faults,
      number_again x.n,
    ) refl
    )
