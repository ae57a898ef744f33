-- Members of lists, one by one, and sorted lists with a new first item.
use Rattle.std.proofs.Common.{◌≡◌, ◌∙◌, ℕ, suc, inl, inr, List, ◌∷◌, ◌++◌, get_or, refl, sym, subst, arith, false, ◌+◌}
use Rattle.std.specs.declared.cmp.Ordering.{Ordering}
use Rattle.std.specs.declared.cmp.Ordering.TheVariants.{Less}
use Rattle.std.specs.Cmp.{IsTotalOrder}
use Rattle.std.specs.Ordering.{is_lt}
use Rattle.std.specs.FinMap.{IsAntisymmetric}
use Rattle.std.specs.List.{AllByRecursion, Contains}
use Rattle.std.specs.List.Sorted.{IsSorted, IsStrictlySortedBy}
use Rattle.std.proofs.lemmas.List.Elements.{Contains-append_cases, Contains-append_left, Contains-append_right}
use Rattle.rx_base.specs.SortedPaths.{HasSameMembers, sorted_once}
use Rattle.rx_base.proofs.Orders.{HasSameMembers-sorted_once, IsStrictlySortedBy-sorted_once, is_sorted_once}
use Rattle.rx_base.proofs.Members.{All-member, All-members, Contains-cons_cases, Contains-head, Contains-later}

-- ---- facts of each member

pub All-both_members : {A : Type 0} (P Q : A → Type 0) (xs ys : List A) → HasSameMembers xs ys → ((q : A) → P q → Q q) → AllByRecursion P xs → AllByRecursion Q ys
All-both_members P Q xs ys same h all = All-members Q ys (λ q c. h q (All-member P xs q all ((same q).1 c)))

-- ---- sorted lists

pub sorted_tail : {A : Type 0} (R : A → A → Ordering) (x : A) (xs : List A) → IsSorted R (x ∷ xs) → IsSorted R xs
sorted_tail R x xs up = λ k d low lt.
    let same : suc k + 1 ≡ suc (k + 1) = omega arith in
    subst (λ (n : ℕ). is_lt (R (get_or (x ∷ xs) n d) (get_or xs k d)) ≡ false) same (up (suc k) d (omega arith) (omega arith))

module _ {K : Type 0} {R : K → K → Ordering} (o : IsTotalOrder R) (same : IsAntisymmetric R) where
  -- lists with the same members are sorted alike
  pub sorted_alike : (xs ys : List K) → HasSameMembers xs ys → sorted_once R xs ≡ sorted_once R ys
  sorted_alike xs ys h =
      sym (is_sorted_once o same xs (sorted_once R ys) (IsStrictlySortedBy-sorted_once o same ys)
      (λ q. (λ c. (HasSameMembers-sorted_once o same ys q).0 ((h q).0 c), λ c. (h q).1 ((HasSameMembers-sorted_once o same ys q).1 c)))) ∙ refl

  -- an item below all others stands first, however often it comes
  pub sorted_first : (x : K) (xs others : List K) → Contains xs x → AllByRecursion (λ y. y ≡ x) xs → AllByRecursion (λ y. R x y ≡ Less) others → sorted_once R (xs ++ others) ≡ x ∷ sorted_once R others
  unfolding IsStrictlySortedBy
  sorted_first x xs others here all above =
      sym (is_sorted_once o same (xs ++ others) (x ∷ sorted_once R others)
      (All-both_members (λ y. R x y ≡ Less) (λ y. R x y ≡ Less) others (sorted_once R others) (HasSameMembers-sorted_once o same others) (λ q h. h) above, IsStrictlySortedBy-sorted_once o same others)
      (λ q. (
        λ c. elim (Contains-append_cases xs others q c) [
          | inl first ↦ subst (λ (y : K). Contains (x ∷ sorted_once R others) y) (sym (All-member (λ y. y ≡ x) xs q all first)) (Contains-head x (sorted_once R others))
          | inr later ↦ Contains-later x (sorted_once R others) q ((HasSameMembers-sorted_once o same others q).0 later)
        ],
        λ c. elim (Contains-cons_cases x (sorted_once R others) q c) [
          | inl is ↦ Contains-append_left xs others q (subst (λ (y : K). Contains xs y) is here)
          | inr later ↦ Contains-append_right xs others q ((HasSameMembers-sorted_once o same others q).1 later)
        ],
      )))
