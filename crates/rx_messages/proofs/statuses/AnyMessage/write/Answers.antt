use Rattle.std.proofs.Common.{refl}
use Rattle.std.proofs.lemmas.List.{append-nil}
use Rattle.rx_messages.specs.Statuses.{any_fields, any_from}
use Rattle.rx_codec.proofs.ContentLaws.{contents-append, contents-numbered, text_again}
use Rattle.rx_messages.proofs.statuses.AnyMessage.write.Goals as goal

pub returns-clause-again : goal.returns-clause-again
unfolding any_fields any_from
returns-clause-again c = λ ok can.
    let x = c.args.self.now in
    simp (contents-append, contents-numbered, append-nil) (rw (text_again x.type_url, text_again x.value) refl)
