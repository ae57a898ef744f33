use Rattle.std.proofs.Common.{ℕ, List, ap, sym, ◌∙◌, refl}
use Rattle.std.specs.Borrow.{Bor}
use Rattle.rx_codec.specs.Contents.{text_in, chunks}
use Rattle.rx_codec.proofs.SliceLemmas.{text_some, text_none}
use Rattle.rx_codec.proofs.chunks.last_bytes.Goals as goal
use Rattle.rx_codec.proofs.chunks.last_bytes.Goals.{in-Some, in_default}

pub loop-field-init : goal.loop-field-init
unfolding text_in chunks
loop-field-init c = refl

pub loop-field-preserved : goal.loop-field-preserved
loop-field-preserved c = elim c.match-chunk_in.branch [
  | in-Some w ↦ ap (λ (b : Bor (List ℕ)). b.now) w.last-is ∙ sym (text_some _ _ _ _ c.loop-field-test.true _ w.in-Some.ensures)
  | in_default w ↦ ap (λ (b : Bor (List ℕ)). b.now) w.last-is ∙ c.loop-field.invariant ∙ sym (text_none _ _ _ _ c.loop-field-test.true w.in_default.ensures)
]
