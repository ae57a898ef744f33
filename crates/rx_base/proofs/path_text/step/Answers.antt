use Rattle.std.proofs.Common.{◌∙◌, refl}
use Rattle.std.proofs.lemmas.List.{map_push}
use Rattle.rx_base.specs.Texts.{texts}
use Rattle.rx_base.proofs.PathLemmas.{with_part_name}
use Rattle.rx_base.proofs.path_text.step.Goals as goal

pub returns : goal.returns
returns c =
    with_part_name (texts c.args.names.items) c.args.part.now c.in_default.not-empty c.in_default.not-text c.in_default.not-text-2
    ∙ rw c.in_ok-push-in_default.ensures.items (rw map_push refl)
