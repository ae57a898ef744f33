use Rattle.std.proofs.Common.{refl}
use Rattle.std.proofs.lemmas.List.{append-nil}
use Rattle.rx_messages.specs.Commands.{platform_fields, platform_from}
use Rattle.rx_codec.proofs.ContentLaws.{all_unit, contents-append, contents-numbered}
use Rattle.rx_messages.proofs.commands.PlatformMessage.write.Goals as goal

pub returns-clause-again : goal.returns-clause-again
unfolding platform_fields platform_from
returns-clause-again c = λ ok can.
    let x = c.args.self.now in
    simp (contents-append, contents-numbered, append-nil) (rw (c.messages.ensures.again ok (all_unit x.properties)) refl)
