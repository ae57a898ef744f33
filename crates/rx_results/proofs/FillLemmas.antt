-- The bytes of slots, one after the other.
use Rattle.std.proofs.Common.{◌≡◌, ℕ, List, [], ◌∷◌, ◌++◌, ap, map, refl}
use Rattle.rx_results.specs.declared.result_outputs.ResultOutput.{ResultOutput}
use Rattle.rx_results.specs.declared.slots.Slot.{Slot}
use Rattle.rx_results.specs.Outcomes.{body_of, filled, texts_after}
use Rattle.rx_results.specs.ResultOutputs.{file_with, files_in, slot_at}
use Rattle.rx_results.specs.Slots.{wanted}

-- the texts that are left behind these slots
abbrev pub texts_past : List Slot → List (List ℕ) → List (List ℕ)
texts_past [] texts = texts
texts_past (slot ∷ slots) texts = texts_past slots (texts_after (wanted slot) texts)

pub texts_past-push : (outputs : List ResultOutput) (output : ResultOutput) (texts : List (List ℕ))
    →
    texts_past (map slot_at (outputs ++ output ∷ [])) texts ≡ texts_after (wanted (slot_at output))
    (texts_past (map slot_at outputs) texts)
texts_past-push [] output texts = refl
texts_past-push (first ∷ outputs) output texts = texts_past-push outputs output
    (texts_after (wanted (slot_at first)) texts)

pub files_in-push : (outputs : List ResultOutput) (output : ResultOutput) (texts : List (List ℕ)) →
    files_in (outputs ++ output ∷ []) (filled (map slot_at (outputs ++ output ∷ [])) texts)
    ≡ files_in outputs (filled (map slot_at outputs) texts)
    ++ file_with output (body_of (wanted (slot_at output)) (slot_at output).inline
    (texts_past (map slot_at outputs) texts)) ∷ []
files_in-push [] output texts = refl
files_in-push (first ∷ outputs) output texts =
    ap (λ rest. file_with first (body_of (wanted (slot_at first)) (slot_at first).inline texts) ∷
    rest)
    (files_in-push outputs output (texts_after (wanted (slot_at first)) texts))
