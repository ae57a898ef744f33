-- Strictly sorted lists: the members determine the list.
use Rattle.std.proofs.Common.{◌≡◌, ◌⊎◌, inl, inr, List, [], ◌∷◌, refl, sym, ◌∙◌, ap, subst}
use Rattle.std.specs.declared.cmp.Ordering.{Ordering}
use Rattle.std.specs.declared.cmp.Ordering.TheVariants.{Less, Equal, Greater}
use Rattle.std.specs.Ordering.{ordering_reverse}
use Rattle.std.specs.Cmp.{IsTotalOrder, tied_itself}
use Rattle.std.specs.FinMap.{IsAntisymmetric}
use Rattle.std.specs.List.{AllByRecursion}
use Rattle.std.specs.List.Sorted.{IsStrictlySortedBy}
use Rattle.rx_base.specs.SortedPaths.{inserted, sorted_once, HasSameMembers}
use Rattle.rx_base.proofs.Lists.{All-weaken}
use Rattle.rx_base.proofs.Members.{All-among, Among, Among-from_contains, Contains-from_among}
use Rattle.rx_base.proofs.Orderings.{less_not_equal, less_not_greater}

-- ---- an order on the items

module _ {K : Type 0} {R : K → K → Ordering} (o : IsTotalOrder R) (same : IsAntisymmetric R) where
  differ : (x y : K) → R x y ≡ Less → x ≡ y → ⊥
  differ x y lt e = less_not_equal (sym lt ∙ ap (λ (z : K). R x z) (sym e) ∙ tied_itself o x)

  turned : (x y : K) → R x y ≡ Less → R y x ≡ Greater
  turned x y lt = o.antisymm y x ∙ ap ordering_reverse lt

  turned_back : (x y : K) → R x y ≡ Greater → R y x ≡ Less
  turned_back x y gt = o.antisymm y x ∙ ap ordering_reverse gt

  not_both : (x y : K) → R x y ≡ Less → R y x ≡ Less → ⊥
  not_both x y lt back = less_not_greater (sym back ∙ turned x y lt)

  -- the first of a sorted list is below what the rest has
  outside : (x y : K) (ys : List K) → R x y ≡ Less → AllByRecursion (λ z. R y z ≡ Less) ys → Among x (y ∷ ys) → ⊥
  outside x y ys lt above (inl e) = differ x y lt (sym e)
  outside x y ys lt above (inr a) = not_both x y lt (All-among (λ z. R y z ≡ Less) x ys above a)

  rest_of : (x q : K) (ys : List K) → R x q ≡ Less → Among q (x ∷ ys) → Among q ys
  rest_of x q ys lt (inl e) = absurd (differ x q lt e)
  rest_of x q ys lt (inr a) = a

  same_tail : (x : K) (xs ys : List K) → AllByRecursion (λ z. R x z ≡ Less) xs → ((q : K) → Among q (x ∷ xs) → Among q (x ∷ ys)) → (q : K) → Among q xs → Among q ys
  same_tail x xs ys above m q a = rest_of x q ys (All-among (λ z. R x z ≡ Less) q xs above a) (m q (inr a))

  unique : (xs ys : List K) → IsStrictlySortedBy R xs → IsStrictlySortedBy R ys → ((q : K) → Among q xs → Among q ys) → ((q : K) → Among q ys → Among q xs) → xs ≡ ys
  unfolding IsStrictlySortedBy
  unique [] [] sx sy f g = refl
  unique [] (y ∷ ys) sx sy f g = absurd (g y (inl refl))
  unique (x ∷ xs) [] sx sy f g = absurd (f x (inl refl))
  unique (x ∷ xs) (y ∷ ys) sx sy f g =
      elim (R x y) as (λ r. R x y ≡ r → x ∷ xs ≡ y ∷ ys) [
        | Less ↦ λ e. absurd (outside x y ys e sy.0 (f x (inl refl)))
        | Greater ↦ λ e. absurd (outside y x xs (turned_back x y e) sx.0 (g y (inl refl)))
        | Equal ↦ λ e.
            let is : x ≡ y = same x y e in
            let F : (q : K) → Among q (x ∷ xs) → Among q (x ∷ ys) = subst (λ (z : K). (q : K) → Among q (x ∷ xs) → Among q (z ∷ ys)) (sym is) f in
            let G : (q : K) → Among q (x ∷ ys) → Among q (x ∷ xs) = subst (λ (z : K). (q : K) → Among q (z ∷ ys) → Among q (x ∷ xs)) (sym is) g in
            let above : AllByRecursion (λ z. R x z ≡ Less) ys = subst (λ (w : K). AllByRecursion (λ z. R w z ≡ Less) ys) (sym is) sy.0 in
            let rest = unique xs ys sx.1 sy.1 (same_tail x xs ys sx.0 F) (same_tail x ys xs above G) in
            ap (λ (z : K). z ∷ xs) is ∙ ap (λ (zs : List K). y ∷ zs) rest
      ] refl

  -- ---- what `inserted` gives

  All-inserted : (P : K → Type 0) (p : K) (xs : List K) → P p → AllByRecursion P xs → AllByRecursion P (inserted R p xs)
  All-inserted P p [] h all = (h, tt)
  All-inserted P p (x ∷ xs) h all =
      elim (R p x) as (λ r. R p x ≡ r → AllByRecursion P (inserted R p (x ∷ xs))) [
        | Less ↦ λ e. rw e (h, all)
        | Equal ↦ λ e. rw e all
        | Greater ↦ λ e. rw e (all.0, All-inserted P p xs h all.1)
      ] refl

  IsStrictlySortedBy-inserted : (p : K) (xs : List K) → IsStrictlySortedBy R xs → IsStrictlySortedBy R (inserted R p xs)
  unfolding IsStrictlySortedBy
  IsStrictlySortedBy-inserted p [] s = (tt, tt)
  IsStrictlySortedBy-inserted p (x ∷ xs) s =
      elim (R p x) as (λ r. R p x ≡ r → IsStrictlySortedBy R (inserted R p (x ∷ xs))) [
        | Less ↦ λ e. rw e ((e, All-weaken (λ z. R x z ≡ Less) (λ z. R p z ≡ Less) xs (λ z lt. o.trans p x z e lt) s.0), s)
        | Equal ↦ λ e. rw e s
        | Greater ↦ λ e. rw e (All-inserted (λ z. R x z ≡ Less) p xs (turned_back p x e) s.0, IsStrictlySortedBy-inserted p xs s.1)
      ] refl

  Among-inserted : (p q : K) (xs : List K) → (p ≡ q) ⊎ Among q xs → Among q (inserted R p xs)
  Among-inserted p q [] h = h
  Among-inserted p q (x ∷ xs) h =
      elim (R p x) as (λ r. R p x ≡ r → Among q (inserted R p (x ∷ xs))) [
        | Less ↦ λ e. rw e h
        | Equal ↦ λ e. rw e (elim h [ inl is ↦ inl (sym (same p x e) ∙ is) | inr a ↦ a ])
        | Greater ↦ λ e. rw e (elim h [
          | inl is ↦ inr (Among-inserted p q xs (inl is))
          | inr a ↦ elim a [ inl is ↦ inl is | inr b ↦ inr (Among-inserted p q xs (inr b)) ]
        ])
      ] refl

  Among-from_inserted : (p q : K) (xs : List K) → Among q (inserted R p xs) → (p ≡ q) ⊎ Among q xs
  Among-from_inserted p q [] a = a
  Among-from_inserted p q (x ∷ xs) a =
      elim (R p x) as (λ r. R p x ≡ r → (p ≡ q) ⊎ Among q (x ∷ xs)) [
        | Less ↦ λ e. rw e at a
        | Equal ↦ λ e. inr (rw e at a)
        | Greater ↦ λ e.
            let b : (x ≡ q) ⊎ Among q (inserted R p xs) = rw e at a in
            elim b [
              | inl is ↦ inr (inl is)
              | inr d ↦ elim (Among-from_inserted p q xs d) [ inl is ↦ inl is | inr c ↦ inr (inr c) ]
            ]
      ] refl

  -- ---- what `sorted_once` gives

  pub IsStrictlySortedBy-sorted_once : (xs : List K) → IsStrictlySortedBy R (sorted_once R xs)
  unfolding IsStrictlySortedBy
  IsStrictlySortedBy-sorted_once [] = tt
  IsStrictlySortedBy-sorted_once (x ∷ xs) = IsStrictlySortedBy-inserted x (sorted_once R xs) (IsStrictlySortedBy-sorted_once xs)

  Among-sorted_once : (q : K) (xs : List K) → Among q xs → Among q (sorted_once R xs)
  Among-sorted_once q [] a = a
  Among-sorted_once q (x ∷ xs) (inl e) = Among-inserted x q (sorted_once R xs) (inl e)
  Among-sorted_once q (x ∷ xs) (inr a) = Among-inserted x q (sorted_once R xs) (inr (Among-sorted_once q xs a))

  Among-from_sorted_once : (q : K) (xs : List K) → Among q (sorted_once R xs) → Among q xs
  Among-from_sorted_once q [] a = a
  Among-from_sorted_once q (x ∷ xs) a = elim (Among-from_inserted x q (sorted_once R xs) a) [ inl e ↦ inl e | inr b ↦ inr (Among-from_sorted_once q xs b) ]

  -- a strictly sorted list with the same members is that list
  pub is_sorted_once : (xs ys : List K) → IsStrictlySortedBy R ys → HasSameMembers xs ys → ys ≡ sorted_once R xs
  is_sorted_once xs ys s m =
      unique ys (sorted_once R xs) s (IsStrictlySortedBy-sorted_once xs)
      (λ q a. Among-sorted_once q xs (Among-from_contains q xs ((m q).1 (Contains-from_among q ys a))))
      (λ q a. Among-from_contains q ys ((m q).0 (Contains-from_among q xs (Among-from_sorted_once q xs a))))

  pub HasSameMembers-sorted_once : (xs : List K) → HasSameMembers xs (sorted_once R xs)
  HasSameMembers-sorted_once xs q =
      (λ c. Contains-from_among q (sorted_once R xs) (Among-sorted_once q xs (Among-from_contains q xs c)), λ c. Contains-from_among q xs (Among-from_sorted_once q xs (Among-from_contains q (sorted_once R xs) c)))
