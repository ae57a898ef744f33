-- Texts of which no two are equal: sorted, each once, they are as many.
use Rattle.std.proofs.Common.{◌≡◌, ℕ, zero, suc, ◌≤◌, ◌==◌, true, false, not, List, [], ◌∷◌, length, map, refl, sym, ap, subst, ◌∙◌, arith, ne_eqb}
use Rattle.std.specs.Prelude.{◌&&◌}
use Rattle.std.specs.declared.cmp.Ordering.TheVariants.{Less, Equal, Greater}
use Rattle.std.specs.Ordering.{nat_cmp}
use Rattle.std.specs.Str.{bytes_eq}
use Rattle.std.specs.Cmp.Lexicographic.{slice_cmp, nat_list_cmp_total, nat_list_eq_equiv}
use Rattle.std.specs.FinMap.{nat_cmp-IsAntisymmetric, slice_cmp-IsAntisymmetric}
use Rattle.std.specs.List.{Contains, list_any}
use Rattle.std.proofs.lemmas.List.{length-map}
use Rattle.std.proofs.lemmas.Map.Views.{Contains-from_any, list_any-from_Contains}
use Rattle.std.proofs.lemmas.Slice.Eq.{bytes_eq-Decides}
use Rattle.rx_base.specs.SortedPaths.{HasSameMembers, inserted, sorted_once}
use Rattle.rx_base.proofs.Orders.{HasSameMembers-sorted_once, IsStrictlySortedBy-sorted_once, is_sorted_once}
use Rattle.rx_session.specs.Rules.{are_distinct}

-- the texts in order, each once
abbrev once : List (List ℕ) → List (List ℕ)
once texts = sorted_once (slice_cmp nat_cmp) texts

behind : (first text : List ℕ) (texts : List (List ℕ)) → Contains texts text → Contains (first ∷ texts) text
behind first text texts c = (suc c.0, omega (arith, c.1), c.2)

in_both : (text item : List ℕ) (texts : List (List ℕ)) → Contains texts text → Contains (text ∷ texts) item → Contains texts item
in_both text item texts c (zero, lt, is) = subst (λ (t : List ℕ). Contains texts t) is c
in_both text item texts c (suc k, lt, is) = (k, omega (arith, lt), is)

-- a text that stands behind adds nothing
once_again : (text : List ℕ) (texts : List (List ℕ)) → Contains texts text → once (text ∷ texts) ≡ once texts
once_again text texts c =
    let total = nat_list_cmp_total in
    let exact = slice_cmp-IsAntisymmetric nat_cmp-IsAntisymmetric in
    let members : HasSameMembers texts (once (text ∷ texts)) =
    λ item. (λ d. (HasSameMembers-sorted_once total exact (text ∷ texts) item).0 (behind text item texts d), λ d. in_both text item texts c ((HasSameMembers-sorted_once total exact (text ∷ texts) item).1 d)) in
    is_sorted_once total exact texts (once (text ∷ texts)) (IsStrictlySortedBy-sorted_once total exact (text ∷ texts)) members

length-inserted : (text : List ℕ) (texts : List (List ℕ)) → (Contains texts text → ⊥) → length (inserted (slice_cmp nat_cmp) text texts) ≡ suc (length texts)
length-inserted text [] out = refl
length-inserted text (other ∷ others) out =
    elim (slice_cmp nat_cmp text other) as (λ r. slice_cmp nat_cmp text other ≡ r → length (inserted (slice_cmp nat_cmp) text (other ∷ others)) ≡ suc (length (other ∷ others))) [
      | Less ↦ λ e. rw e refl
      | Equal ↦ λ e. absurd (out (0, omega arith, sym (slice_cmp-IsAntisymmetric nat_cmp-IsAntisymmetric text other e)))
      | Greater ↦ λ e. rw e (ap suc (length-inserted text others (λ c. out (behind other text others c))))
    ] refl

length-inserted-most : (text : List ℕ) (texts : List (List ℕ)) → length (inserted (slice_cmp nat_cmp) text texts) ≤ suc (length texts)
length-inserted-most text [] = omega arith
length-inserted-most text (other ∷ others) =
    elim (slice_cmp nat_cmp text other) as (λ r. slice_cmp nat_cmp text other ≡ r → length (inserted (slice_cmp nat_cmp) text (other ∷ others)) ≤ suc (length (other ∷ others))) [
      | Less ↦ λ e. rw e (omega arith)
      | Equal ↦ λ e. rw e (omega arith)
      | Greater ↦ λ e. rw e (omega (arith, length-inserted-most text others))
    ] refl

length-once-most : (texts : List (List ℕ)) → length (once texts) ≤ length texts
length-once-most [] = omega arith
length-once-most (text ∷ texts) = omega (arith, length-once-most texts, length-inserted-most text (once texts))

not_among : (text : List ℕ) (texts : List (List ℕ)) → list_any (bytes_eq text) texts ≡ false → Contains (once texts) text → ⊥
not_among text texts none c =
    let there = (HasSameMembers-sorted_once nat_list_cmp_total (slice_cmp-IsAntisymmetric nat_cmp-IsAntisymmetric) texts text).1 c in
    absurd (cc (none, list_any-from_Contains nat_list_eq_equiv text texts there))

one_more : (a b : ℕ) → (suc a == suc b) ≡ (a == b)
one_more a b = grind arith

-- taking each text once loses none exactly where no two are equal
distinct_by_length : (texts : List (List ℕ)) → (length (once texts) == length texts) ≡ are_distinct texts
distinct_by_length [] = refl
distinct_by_length (text ∷ texts) =
    elim (list_any (bytes_eq text) texts) as (λ found. list_any (bytes_eq text) texts ≡ found → (length (once (text ∷ texts)) == length (text ∷ texts)) ≡ (not found && are_distinct texts)) [
      | true ↦ λ e.
          let again = ap length (once_again text texts (Contains-from_any (λ x y f. (bytes_eq-Decides x y).0 f) text texts e)) in
          let most = length-once-most texts in
          ne_eqb (length (once (text ∷ texts))) (length (text ∷ texts)) (λ same. omega (arith, again, most, same))
      | false ↦ λ e. rw (length-inserted text (once texts) (not_among text texts e)) (one_more (length (once texts)) (length texts) ∙ distinct_by_length texts)
    ] refl

-- the same of texts that are seen through references
pub distinct_seen : {Y : Type 0} (f : Y → List ℕ) (refs sorted : List Y) → map f sorted ≡ sorted_once (slice_cmp nat_cmp) (map f refs) → (length sorted == length refs) ≡ are_distinct (map f refs)
distinct_seen f refs sorted e =
    let left : length sorted ≡ length (once (map f refs)) = sym (length-map sorted f) ∙ ap length e in
    let right : length refs ≡ length (map f refs) = sym (length-map refs f) in
    rw (left, right) (distinct_by_length (map f refs))
