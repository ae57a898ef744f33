use Rattle.std.proofs.Common.{refl}
use Rattle.std.proofs.lemmas.List.{append-nil}
use Rattle.rx_messages.specs.Commands.{property_fields, property_from}
use Rattle.rx_codec.proofs.ContentLaws.{contents-append, contents-numbered, text_again}
use Rattle.rx_messages.proofs.commands.PropertyMessage.write.Goals as goal

pub returns-clause-again : goal.returns-clause-again
unfolding property_fields property_from
returns-clause-again c = λ ok can.
    let x = c.args.self.now in
    simp (contents-append, contents-numbered, append-nil) (rw (text_again x.name, text_again x.value) refl)
