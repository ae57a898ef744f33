use Rattle.std.proofs.Common.{refl}
use Rattle.std.proofs.lemmas.List.{append-nil}
use Rattle.rx_codec.proofs.ContentLaws.{contents-append, contents-numbered, text_again}
use Rattle.rx_session.specs.Messages.{pair_message_fields, pair_message_from}
use Rattle.rx_session.proofs.pair_message.PairMessageMessage.write.Goals as goal

pub returns-clause-again : goal.returns-clause-again
unfolding pair_message_fields pair_message_from
returns-clause-again c = λ ok can.
    let x = c.args.self.now in
    simp (contents-append, contents-numbered, append-nil) (rw (text_again x.pair.name, text_again x.pair.value) refl)
