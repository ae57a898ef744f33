use Rattle.std.proofs.Common.{refl}
use Rattle.std.proofs.lemmas.List.{append-nil}
use Rattle.rx_codec.proofs.ContentLaws.{contents-append, contents-numbered, number_again}
use Rattle.rx_session.specs.ReplyMessages.{seen_message_fields, seen_message_from}
use Rattle.rx_session.proofs.seen_message.SeenMessageMessage.write.Goals as goal

pub returns-clause-again : goal.returns-clause-again
unfolding seen_message_fields seen_message_from
returns-clause-again c = λ ok can.
    let x = c.args.self.now in
    simp (contents-append, contents-numbered, append-nil) (
    rw (
      number_again x.kind,
      number_again x.size,
      number_again x.mark_high,
      number_again x.mark_low,
      c.in_ok-message.ensures.again refl can,
      number_again x.executable,
    ) refl
    )
