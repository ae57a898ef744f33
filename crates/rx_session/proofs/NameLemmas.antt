-- Texts that are sorted by reference.
use Rattle.std.proofs.Common.{◌≡◌, ℕ, Bool, true, false, List, [], ◌∷◌, map, refl, sym, ap, ◌∙◌, subst}
use Rattle.std.specs.Prelude.{cond}
use Rattle.std.specs.declared.cmp.Ordering.{Ordering}
use Rattle.std.specs.declared.cmp.Ordering.TheVariants.{Less}
use Rattle.std.specs.Ordering.{nat_cmp}
use Rattle.std.specs.Str.{bytes_eq}
use Rattle.std.specs.Cmp.Lexicographic.{slice_cmp, nat_list_cmp_total, nat_list_eq_equiv}
use Rattle.std.specs.FinMap.{nat_cmp-IsAntisymmetric, slice_cmp-IsAntisymmetric}
use Rattle.std.specs.List.{AllByRecursion, dedup, dedup_from}
use Rattle.std.specs.List.Retain.{IsFiltered, DiffersFromLast}
use Rattle.std.specs.List.Sorted.{IsPermutation, IsSorted, IsStrictlySortedBy}
use Rattle.std.proofs.lemmas.Cmp.{on_total}
use Rattle.std.proofs.lemmas.List.Filters.{dedup_is}
use Rattle.std.proofs.lemmas.List.Kept.{IsStrictlySortedBy-dedup, Contains-dedup, Contains-from_dedup}
use Rattle.std.proofs.lemmas.List.Sorted.{Contains-permutation, IsPermutation-map, IsPermutation-sym}
use Rattle.std.proofs.lemmas.Map.Text.{is_eq-slice_cmp}
use Rattle.std.proofs.lemmas.Slice.Eq.{bytes_eq-Decides}
use Rattle.rx_base.specs.SortedPaths.{sorted_once, HasSameMembers}
use Rattle.rx_base.proofs.Orders.{is_sorted_once}

all_seen : {Y X : Type 0} (f : Y → X) (P : X → Type 0) (ys : List Y) → AllByRecursion (λ y. P (f y)) ys → AllByRecursion P (map f ys)
all_seen f P [] h = tt
all_seen f P (y ∷ ys) h = (h.0, all_seen f P ys h.1)

strictly_seen : {Y X : Type 0} (f : Y → X) (R : X → X → Ordering) (ys : List Y) → IsStrictlySortedBy (λ a b. R (f a) (f b)) ys → IsStrictlySortedBy R (map f ys)
unfolding IsStrictlySortedBy
strictly_seen f R [] h = tt
strictly_seen f R (y ∷ ys) h = (all_seen f (λ x. R (f y) x ≡ Less) ys h.0, strictly_seen f R ys h.1)

dedup_from_seen : {Y X : Type 0} (f : Y → X) (E : X → X → Bool) (k : Y) (ys : List Y) → map f (dedup_from (λ a b. E (f a) (f b)) k ys) ≡ dedup_from E (f k) (map f ys)
dedup_from_seen f E k [] = refl
dedup_from_seen f E k (y ∷ ys) =
    elim (E (f y) (f k)) as (λ t. map f (cond t (dedup_from (λ a b. E (f a) (f b)) k ys) (k ∷ dedup_from (λ a b. E (f a) (f b)) y ys)) ≡ cond t (dedup_from E (f k) (map f ys)) (f k ∷ dedup_from E (f y) (map f ys))) [
      | true ↦ dedup_from_seen f E k ys
      | false ↦ ap (λ xs. f k ∷ xs) (dedup_from_seen f E y ys)
    ]

dedup_seen : {Y X : Type 0} (f : Y → X) (E : X → X → Bool) (ys : List Y) → map f (dedup (λ a b. E (f a) (f b)) ys) ≡ dedup E (map f ys)
dedup_seen f E [] = refl
dedup_seen f E (y ∷ ys) = dedup_from_seen f E y ys

seen_ascending : {Y : Type 0} (f : Y → List ℕ) (sorted once : List Y) → IsSorted (λ a b. slice_cmp nat_cmp (f a) (f b)) sorted
    → IsFiltered (DiffersFromLast (λ a b. bytes_eq (f a) (f b))) [] sorted once → IsStrictlySortedBy (slice_cmp nat_cmp) (map f once)
seen_ascending f sorted once s kept =
    strictly_seen f (slice_cmp nat_cmp) once
    (rw (dedup_is (λ a b. bytes_eq (f a) (f b)) sorted once kept) (IsStrictlySortedBy-dedup (on_total f nat_list_cmp_total) (λ x y. sym (is_eq-slice_cmp (f x) (f y))) sorted s))

seen_members : {Y : Type 0} (f : Y → List ℕ) (refs sorted once : List Y) → IsPermutation refs sorted
    → IsFiltered (DiffersFromLast (λ a b. bytes_eq (f a) (f b))) [] sorted once → HasSameMembers (map f refs) (map f once)
seen_members f refs sorted once p kept =
    let seen = IsPermutation-map f refs sorted p in
    let whole : map f once ≡ dedup bytes_eq (map f sorted) = ap (map f) (dedup_is (λ a b. bytes_eq (f a) (f b)) sorted once kept) ∙ dedup_seen f bytes_eq sorted in
    subst (λ (found : List (List ℕ)). HasSameMembers (map f refs) found) (sym whole)
    (λ item. (
      λ c. Contains-dedup nat_list_eq_equiv (λ x y e. (bytes_eq-Decides x y).0 e) (map f sorted) item (Contains-permutation (map f refs) (map f sorted) item seen c),
      λ c. Contains-permutation (map f sorted) (map f refs) item (IsPermutation-sym (map f refs) (map f sorted) seen) (Contains-from_dedup bytes_eq (map f sorted) item c),
    ))

-- what a sort and a `dedup` of references leave
pub seen_once : {Y : Type 0} (f : Y → List ℕ) (refs sorted once : List Y) → IsPermutation refs sorted → IsSorted (λ a b. slice_cmp nat_cmp (f a) (f b)) sorted
    → IsFiltered (DiffersFromLast (λ a b. bytes_eq (f a) (f b))) [] sorted once → map f once ≡ sorted_once (slice_cmp nat_cmp) (map f refs)
seen_once f refs sorted once p s kept =
    is_sorted_once nat_list_cmp_total (slice_cmp-IsAntisymmetric nat_cmp-IsAntisymmetric) (map f refs) (map f once) (seen_ascending f sorted once s kept) (seen_members f refs sorted once p kept)
