use Rattle.std.proofs.Common.{ℕ, List, [], ◌∷◌, ◌++◌, ap, sym, ◌∙◌, refl}
use Rattle.rx_codec.specs.Contents.{chunks}
use Rattle.rx_codec.proofs.SliceLemmas.{chunks_some, chunks_none, slices-push}
use Rattle.rx_codec.proofs.chunks.chunks_of.Goals as goal
use Rattle.rx_codec.proofs.chunks.chunks_of.Goals.{in-Some+in_ok-push, in_default}

pub loop-field-init : goal.loop-field-init
unfolding chunks
loop-field-init c = rw c.new-found.ensures.items refl

pub loop-field-preserved : goal.loop-field-preserved
loop-field-preserved c = elim c.match-chunk_in.branch [
  | in-Some+in_ok-push w ↦ rw (w.found-is, w.in_ok-push.ensures.items) (
      slices-push _ _ ∙ ap (λ (xs : List (List ℕ)). xs ++ w.in-Some.bytes.now ∷ []) c.loop-field.invariant ∙ sym (chunks_some _ _ _ _ c.loop-field-test.true _ w.in-Some.ensures)
      )
  | in_default w ↦ rw w.found-is (c.loop-field.invariant ∙ sym (chunks_none _ _ _ _ c.loop-field-test.true w.in_default.ensures))
]
