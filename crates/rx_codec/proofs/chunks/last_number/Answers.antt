use Rattle.std.proofs.Common.{sym, ◌∙◌, refl}
use Rattle.rx_codec.specs.Contents.{number_in, numbers}
use Rattle.rx_codec.proofs.SliceLemmas.{number_some, number_none}
use Rattle.rx_codec.proofs.chunks.last_number.Goals as goal
use Rattle.rx_codec.proofs.chunks.last_number.Goals.{in-Some, in_default}

pub loop-field-init : goal.loop-field-init
unfolding number_in numbers
loop-field-init c = refl

pub loop-field-preserved : goal.loop-field-preserved
loop-field-preserved c = elim c.match-number_in.branch [
  | in-Some w ↦ w.last-is ∙ sym (number_some _ _ _ _ c.loop-field-test.true _ (sym c.number_in.ensures ∙ w.in-Some.is))
  | in_default w ↦ w.last-is ∙ c.loop-field.invariant ∙ sym (number_none _ _ _ _ c.loop-field-test.true (sym c.number_in.ensures ∙ w.in_default.is))
]
