-- What `strip_prefix` leaves of a path.
use Rattle.std.proofs.Common.{◌≡◌, ℕ, zero, suc, ◌+◌, true, false, List, [], ◌∷◌, ◌++◌, length, drop, Some, None, refl, sym, ap, ◌∙◌, subst, arith}
use Rattle.std.specs.Prelude.{nat_eq}
use Rattle.std.specs.List.{starts_with}
use Rattle.std.specs.Str.{IsCharBoundary}
use Rattle.std.specs.Str.Pattern.{FindsTextPrefix}
use Rattle.std.proofs.lemmas.Str.Pattern.{starts_text}
use Rattle.rx_base.proofs.PathBelow.{starts_with-more}
use Rattle.rx_action.specs.OutputPaths.{path_behind}

-- what a call found
abbrev pub Strips : List ℕ → List ℕ → List ℕ → Type 0
Strips n s x = (k : ℕ) × FindsTextPrefix n s (Some k) × (x ≡ drop k s) × (length x + k ≡ length s)

begins : (n s x : List ℕ) → Strips n s x → starts_with nat_eq s n ≡ true
begins n s x h =
    let boundary : IsCharBoundary s h.0 = subst (λ k. IsCharBoundary s k) (sym h.1.0) h.1.2 in
    sym (starts_text true n s (h.0, h.1, boundary))

rest : (n s x : List ℕ) → Strips n s x → x ≡ drop (length n) s
rest n s x h = h.2 ∙ ap (λ k. drop k s) h.1.0

drop_nil : (n : ℕ) → drop {A = ℕ} n [] ≡ []
drop_nil zero = refl
drop_nil (suc n) = refl

drop_one : (n : ℕ) (xs : List ℕ) → drop 1 (drop n xs) ≡ drop (n + 1) xs
drop_one zero xs = refl
drop_one (suc n) [] = sym (drop_nil (suc n + 1))
drop_one (suc n) (x ∷ xs) = subst (λ (m : ℕ). drop 1 (drop n xs) ≡ drop m (x ∷ xs)) {x = suc (n + 1)} {y = suc n + 1} (omega arith) (drop_one n xs)

pub both : (n s x y : List ℕ) → Strips n s x → Strips (47 ∷ []) x y → y ≡ path_behind n s
both n s x y h k =
    let second : starts_with nat_eq (drop (length n) s) (47 ∷ []) ≡ true = subst (λ (t : List ℕ). starts_with nat_eq t (47 ∷ []) ≡ true) (rest n s x h) (begins (47 ∷ []) x y k) in
    let all : starts_with nat_eq s (n ++ 47 ∷ []) ≡ true = starts_with-more s n 47 ∙ rw (begins n s x h, second) refl in
    rw all (rest (47 ∷ []) x y k ∙ ap (λ (t : List ℕ). drop 1 t) (rest n s x h) ∙ drop_one (length n) s)

pub first : (n s x : List ℕ) → Strips n s x → FindsTextPrefix (47 ∷ []) x None → s ≡ path_behind n s
first n s x h k =
    let second : starts_with nat_eq (drop (length n) s) (47 ∷ []) ≡ false = subst (λ (t : List ℕ). starts_with nat_eq t (47 ∷ []) ≡ false) (rest n s x h) (sym (starts_text false (47 ∷ []) x k)) in
    let all : starts_with nat_eq s (n ++ 47 ∷ []) ≡ false = starts_with-more s n 47 ∙ rw (begins n s x h, second) refl in
    rw all refl

pub neither : (n s : List ℕ) → FindsTextPrefix n s None → s ≡ path_behind n s
neither n s h =
    let none : starts_with nat_eq s n ≡ false = sym (starts_text false n s h) in
    let all : starts_with nat_eq s (n ++ 47 ∷ []) ≡ false = starts_with-more s n 47 ∙ rw none refl in
    rw all refl
