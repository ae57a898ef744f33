-- Paths, part by part, as the loops go.
use Rattle.std.proofs.Common.{◌≡◌, ℕ, ◌+◌, ◌<◌, ◌≤◌, List, [], ◌∷◌, ◌++◌, length, get_or, take, drop, Ok, refl, sym, ap, ◌∙◌, append_assoc, arith}
use Rattle.std.specs.Borrow.{Bor}
use Rattle.std.proofs.lemmas.List.{at_drop_more, map_more, length-map, length-take-le}
use Rattle.std.specs.Prelude.{codes}
use Rattle.rx_base.specs.Paths.{with_part, with_parts, joined}
use Rattle.rx_base.specs.Results.{◌>>=◌}
use Rattle.rx_base.specs.Texts.{texts}
use Rattle.rx_base.proofs.ByteLists.{bytes_eq-other}
pub use Rattle.std.proofs.lemmas.Bool.{false_from_ne_true as not_true}

-- one more name, behind a slash
pub joined_push : (names : List (List ℕ)) (name : List ℕ) → 0 < length names → joined (names ++ name ∷ []) ≡ joined names ++ 47 ∷ name
joined_push [] name h = absurd (omega arith)
joined_push (x ∷ []) name h = refl
joined_push (x ∷ y ∷ xs) name h = rw (joined_push (y ∷ xs) name (omega arith)) (sym (append_assoc x (47 ∷ joined (y ∷ xs)) (47 ∷ name)))

-- the next part, and then the others
pub with_parts-drop : (all : List (List ℕ)) (names : List (List ℕ)) (i : ℕ) (part : List ℕ) → (i < length all) × (part ≡ get_or all i part)
    → with_parts names (drop i all) ≡ (with_part names part >>= λ next. with_parts next (drop (i + 1) all))
unfolding with_parts
with_parts-drop all names i part h =
    at_drop_more (with_parts names) all i part h.0 ∙ ap (λ (p : List ℕ). with_part names p >>= λ next. with_parts next (drop (i + 1) all)) (sym h.1)

-- a part that is a name
pub with_part_name : (names : List (List ℕ)) (part : List ℕ) → (part ≡ [] → ⊥) → (part ≡ codes "." → ⊥) → (part ≡ codes ".." → ⊥) → with_part names part ≡ Ok (names ++ part ∷ [])
unfolding with_part
with_part_name names part a b c = rw (bytes_eq-other part [] a, bytes_eq-other part (codes ".") b, bytes_eq-other part (codes "..") c) refl

-- the text of one more name: the first, or one behind a slash
joined_first : (names : List (Bor (List ℕ))) (d : Bor (List ℕ)) → 0 < length names → joined (texts (take 1 names)) ≡ (get_or names 0 d).now
joined_first [] d h = absurd (omega arith)
joined_first (x ∷ xs) d h = refl

joined_more : (names : List (Bor (List ℕ))) (i : ℕ) (d : Bor (List ℕ)) → i < length names → 0 < i
    → joined (texts (take (i + 1) names)) ≡ joined (texts (take i names)) ++ 47 ∷ (get_or names i d).now
joined_more names i d lt more =
    let len : length (texts (take i names)) ≡ i = length-map (take i names) (λ (name : Bor (List ℕ)). name.now) ∙ length-take-le i names (omega arith) in
    ap joined (map_more (λ (name : Bor (List ℕ)). name.now) names i d lt) ∙ joined_push (texts (take i names)) (get_or names i d).now (omega arith)

pub first_name : (names : List (Bor (List ℕ))) (i : ℕ) (d : Bor (List ℕ)) (old same new : List ℕ) → i < length names → i ≤ 0 → old ≡ joined (texts (take i names))
    → same ≡ old → new ≡ same ++ (get_or names i d).now → new ≡ joined (texts (take (i + 1) names))
first_name names i d old same new lt le was s h =
    let zero-is : i ≡ 0 = omega arith in
    h ∙ rw (s, was, zero-is) (sym (joined_first names d (omega arith)))

pub next_name : (names : List (Bor (List ℕ))) (i : ℕ) (d : Bor (List ℕ)) (old slash new : List ℕ) → i < length names → 0 < i → old ≡ joined (texts (take i names))
    → slash ≡ old ++ 47 ∷ [] → new ≡ slash ++ (get_or names i d).now → new ≡ joined (texts (take (i + 1) names))
next_name names i d old slash new lt more was s h =
    h ∙ rw (s, was, append_assoc) (sym (joined_more names i d lt more))
