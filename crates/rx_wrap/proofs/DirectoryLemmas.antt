-- What `strip_suffix` leaves at a slash.
use Rattle.std.proofs.Common.{◌≡◌, true, ℕ, suc, ◌-◌, ◌<◌, List, [], ◌∷◌, ◌++◌, length, take, drop, refl, sym, ap, ◌∙◌, arith, slice_index, ◌==◌, nat_lt}
use Rattle.std.specs.Cmp.{first_so, second_so}
use Rattle.std.specs.Io.BufRead.{ends_with_byte, strip_last}
use Rattle.std.proofs.lemmas.Bool.{eqb-true, false_from_ne_true}
use Rattle.std.proofs.lemmas.Bool.Decides.{nat_tests}
use Rattle.std.proofs.lemmas.List.{drop_all, length-append, take-append-drop}
use Rattle.std.proofs.Math.Seq.{drop-cons, take-append_seam}

at_seam : (front : List ℕ) (c : ℕ) → slice_index (front ++ c ∷ []) (length front) ≡ c
at_seam [] c = refl
at_seam (f ∷ fs) c = at_seam fs c

one_less : (front : List ℕ) → length (front ++ 47 ∷ []) - 1 ≡ length front
one_less front = omega (arith, length-append front (47 ∷ []))

ends_at : (front : List ℕ) → ends_with_byte 47 (front ++ 47 ∷ []) ≡ true
ends_at front =
    let some : nat_lt 0 (length (front ++ 47 ∷ [])) ≡ true = grind (arith, nat_tests, length-append front (47 ∷ [])) in
    rw (some, one_less front, at_seam front 47) refl

front_at : (front : List ℕ) → take (length (front ++ 47 ∷ []) - 1) (front ++ 47 ∷ []) ≡ front
front_at front = rw (one_less front) (take-append_seam front (47 ∷ []))

ended : (directory : List ℕ) → ends_with_byte 47 directory ≡ true → directory ≡ take (length directory - 1) directory ++ 47 ∷ []
ended directory e =
    let test : nat_lt 0 (length directory) ≡ true = first_so (nat_lt 0 (length directory)) (slice_index directory (length directory - 1) == 47) e in
    let some : 0 < length directory = grind (arith, nat_tests, test) in
    let last : slice_index directory (length directory - 1) ≡ 47 = eqb-true (slice_index directory (length directory - 1)) 47 (second_so (nat_lt 0 (length directory)) (slice_index directory (length directory - 1) == 47) e) in
    let rest : drop (length directory - 1) directory ≡ 47 ∷ [] =
    drop-cons directory (length directory - 1) 0 (omega (arith, some)) ∙ rw (last, drop_all (suc (length directory - 1)) directory (omega (arith, some))) refl
    in
    sym (take-append-drop (length directory - 1) directory) ∙ ap (λ t. take (length directory - 1) directory ++ t) rest

pub unslashed-Some : (directory front : List ℕ) → directory ≡ front ++ 47 ∷ [] → front ≡ strip_last 47 directory
unslashed-Some directory front e = rw e (rw (ends_at front) (sym (front_at front)))

pub unslashed-None : (directory : List ℕ) → ((front : List ℕ) → directory ≡ front ++ 47 ∷ [] → ⊥) → directory ≡ strip_last 47 directory
unslashed-None directory none = rw (false_from_ne_true (ends_with_byte 47 directory) (λ e. none _ (ended directory e))) refl
