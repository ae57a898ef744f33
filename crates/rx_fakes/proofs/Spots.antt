-- Where an item goes by its path.
use Rattle.std.proofs.Common.{◌≡◌, ℕ, ◌+◌, ◌<◌, List, ◌∷◌, ◌++◌, Ordering, Equal, add-one, ap, drop, drop-cons, get_or, length, nat_cmp, refl, set, suc, sym, take, ◌∙◌}
use Rattle.std.specs.Ordering.{match_ordering}
use Rattle.std.specs.Cmp.Lexicographic.{slice_cmp}
use Rattle.std.proofs.lemmas.List.{drop-set, take-append-drop, take-set}
use Rattle.rx_world.specs.Files.{placed_by}

placed_by-equal : {T : Type 0} (path : T → List ℕ) (item held : T) (rest : List T) → slice_cmp nat_cmp (path item) (path held) ≡ Equal → placed_by path item (held ∷ rest) ≡ item ∷ rest
placed_by-equal path item held rest e = ap (λ o. match_ordering o (item ∷ held ∷ rest) (item ∷ rest) (held ∷ placed_by path item rest)) e

pub placed_by-set : {T : Type 0} (path : T → List ℕ) (items : List T) (item held : T) (at : ℕ) → at < length items → slice_cmp nat_cmp (path item) (path (get_or items at held)) ≡ Equal → take at items ++ placed_by path item (drop at items) ≡ set items at item
placed_by-set path items item held at within e =
    ap (λ s. take at items ++ placed_by path item s) (drop-cons items at held within)
    ∙ ap (λ s. take at items ++ s) (placed_by-equal path item (get_or items at held) (drop (suc at) items) e)
    ∙ sym (sym (take-append-drop at (set items at item)) ∙ rw (take-set items at item, drop-set items at item within, add-one) refl)
