use Rattle.std.proofs.Common.{◌≡◌, refl, rules}
use Rattle.std.proofs.lemmas.List.{append-nil}
use Rattle.rx_codec.specs.Contents.{int32_in, int32_put}
use Rattle.rx_codec.proofs.ContentLaws.{contents-append, contents-numbered, number_again, text_again}
use Rattle.rx_session.specs.ReplyMessages.{reply_message_fields, reply_message_from}
use Rattle.rx_session.proofs.reply_message.ReplyMessageMessage.write.Goals as goal

pub returns-clause-again : goal.returns-clause-again
unfolding reply_message_fields reply_message_from
returns-clause-again c = λ ok can.
    let x = c.args.self.now in
    let exit_again : int32_in (int32_put x.exit) ≡ x.exit = search (rules, c.in_ok-int32.ensures.again) in
    simp (contents-append, contents-numbered, append-nil) (
    rw (
      number_again x.kind,
      exit_again,
      text_again x.stdout,
      text_again x.stderr,
      number_again x.origin,
      number_again x.receipt,
      number_again x.placed,
      number_again x.reason,
      number_again x.value,
      text_again x.path,
      c.in_ok-message.ensures.again refl can.0,
      c.in_ok-message-2.ensures.again refl can.1,
      c.messages.ensures.again ok can.2,
    ) refl
    )
