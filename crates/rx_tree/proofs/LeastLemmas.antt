-- The least of what a search has found, one step on.
use Rattle.std.proofs.Common.{◌≡◌, ◌∙◌, ℕ, ◌+◌, ◌-◌, ◌<◌, ◌≤◌, ◌⊎◌, inl, inr, Bool, true, false, List, Option, Some, None, cond, length, get_or, refl, sym, ap, arith}
use Rattle.std.proofs.lemmas.Bool.{cases_lt, false≢true}
use Rattle.std.proofs.lemmas.List.{get_or_default}
use Rattle.std.specs.declared.cmp.Ordering.{Ordering}
use Rattle.std.specs.declared.cmp.Ordering.TheVariants.{Less, Equal, Greater}
use Rattle.std.specs.Ordering.{is_lt, is_le, is_gt, ordering_reverse}
use Rattle.std.specs.Cmp.{IsTotalOrder}
use Rattle.std.proofs.lemmas.Cmp.{nat_list_cmp_total, tied_itself, upto}
use Rattle.rx_tree.specs.Entries.{Entry}
use Rattle.rx_tree.specs.Refusals.{IsLeast, by_bytes, stands_under}
use Rattle.rx_tree.specs.Search.{IsLeastOr, HasNeighbours, HasBelow, lesser_of}

-- ---- an order, turned round

is_gt-reverse : (o : Ordering) → is_gt (ordering_reverse o) ≡ is_lt o
is_gt-reverse Less = refl
is_gt-reverse Equal = refl
is_gt-reverse Greater = refl

module _ {K : Type 0} {R : K → K → Ordering} (o : IsTotalOrder R) where
  pub turned : (x y : K) → is_lt (R y x) ≡ is_gt (R x y)
  turned x y = sym (is_gt-reverse (R y x)) ∙ sym (ap is_gt (o.antisymm x y))

  pub not_below_itself : (x : K) → is_lt (R x x) ≡ false
  not_below_itself x = ap is_lt (tied_itself o x)

  pub not_below : (x y z : K) → is_lt (R y x) ≡ false → is_lt (R z y) ≡ false → is_lt (R z x) ≡ false
  not_below x y z h k = turned x z ∙ upto o x y z (sym (turned x y) ∙ h) (sym (turned y z) ∙ k)

is_le-gt : (o : Ordering) → is_le o ≡ true → is_gt o ≡ false
is_le-gt Less e = refl
is_le-gt Equal e = refl
is_le-gt Greater e = absurd (cc e)

not_le-lt : (o : Ordering) → is_le o ≡ false → is_lt (ordering_reverse o) ≡ true
not_le-lt Less e = absurd (cc e)
not_le-lt Equal e = absurd (cc e)
not_le-lt Greater e = refl

lt_not_gt : (o : Ordering) → is_lt o ≡ true → is_gt o ≡ false
lt_not_gt Less e = refl
lt_not_gt Equal e = absurd (cc e)
lt_not_gt Greater e = absurd (cc e)

-- ---- one more

chosen : (P : List ℕ → Type 0) (old new : List ℕ) → (is_le (by_bytes old new) ≡ true → P old) → (is_le (by_bytes old new) ≡ false → P new) → P (lesser_of (Some old) new)
chosen P old new f g =
    elim (is_le (by_bytes old new)) as (λ b. is_le (by_bytes old new) ≡ b → P (cond b old new)) [ true ↦ λ e. f e | false ↦ λ e. g e ] refl

-- what is found now was found before, or is new
pub IsLeastOr-more : (P Q : List ℕ → Type 0) (old : Option (List ℕ)) (new : List ℕ) → IsLeastOr by_bytes P old → ((p : List ℕ) → P p → Q p) → Q new
    → ((p : List ℕ) → Q p → P p ⊎ (p ≡ new)) → IsLeastOr by_bytes Q (Some (lesser_of old new))
IsLeastOr-more P Q None new none keeps here split = (
  here,
  λ p h. elim (split p h) [
    | inl was ↦ absurd (none p was)
    | inr is ↦ rw is (not_below_itself nat_list_cmp_total new)
  ],
)
IsLeastOr-more P Q (Some old) new least keeps here split =
    chosen (λ p. IsLeast by_bytes Q p) old new
    (λ le. (
      keeps old least.0,
      λ p h. elim (split p h) [
        | inl was ↦ least.1 p was
        | inr is ↦ rw is (turned nat_list_cmp_total old new ∙ is_le-gt (by_bytes old new) le)
      ],
    ))
    (λ gt. (
      here,
      λ p h. elim (split p h) [
        | inl was ↦
            let lt : is_lt (by_bytes new old) ≡ true = ap is_lt (nat_list_cmp_total.antisymm new old) ∙ not_le-lt (by_bytes old new) gt in
            not_below nat_list_cmp_total new old p (turned nat_list_cmp_total new old ∙ lt_not_gt (by_bytes new old) lt) (least.1 p was)
        | inr is ↦ rw is (not_below_itself nat_list_cmp_total new)
      ],
    ))

-- nothing new was found
pub IsLeastOr-same : {K : Type 0} (R : K → K → Ordering) (P Q : K → Type 0) (found : Option K) → IsLeastOr R P found → ((p : K) → P p → Q p) → ((p : K) → Q p → P p) → IsLeastOr R Q found
IsLeastOr-same R P Q None none keeps back = λ p h. none p (back p h)
IsLeastOr-same R P Q (Some least) h keeps back = (keeps least h.0, λ p k. h.1 p (back p k))

-- ---- which of the first entries

last_or : (k n : ℕ) → k < n + 1 → (k < n) ⊎ (k ≡ n)
last_or k n lt = elim (cases_lt k n) [ inl below ↦ inl below | inr above ↦ inr (omega arith) ]

module _ (test : Entry → Entry → Bool) (xs : List Entry) where
  keeps_neighbours : (i : ℕ) (p : List ℕ) → HasNeighbours test xs i p → HasNeighbours test xs (i + 1) p
  keeps_neighbours i p h = let lt : h.at + 1 < i = h.within in record { at = h.at; within = omega arith; inside = h.inside; passes = h.passes; path_is = h.path_is }

  first_at : (k : ℕ) (x d : Entry) → k < length xs → x ≡ get_or xs k x → get_or xs k d ≡ x
  first_at k x d lt is = get_or_default xs k d x lt ∙ sym is

  neighbours_or : (i : ℕ) (p : List ℕ) → HasNeighbours test xs (i + 1) p → HasNeighbours test xs i p ⊎ (h : HasNeighbours test xs (i + 1) p) × (h.at + 1 ≡ i)
  neighbours_or i p h =
      elim (last_or (h.at + 1) i h.within) [
        | inl below ↦ inl (record { at = h.at; within = below; inside = h.inside; passes = h.passes; path_is = h.path_is })
        | inr same ↦ inr (h, same)
      ]

  module _ (i : ℕ) (x y : Entry) (some : 1 ≤ i) (lt : i < length xs) (x_is : x ≡ get_or xs (i - 1) x) (y_is : y ≡ get_or xs i y) where
    test_at : (k : ℕ) (d : Entry) → k + 1 ≡ i → test (get_or xs k d) (get_or xs (k + 1) d) ≡ test x y
    test_at k d e =
        let back : k ≡ i - 1 = omega arith in
        let first : get_or xs k d ≡ x = rw back (first_at (i - 1) x d (omega arith) x_is) in
        let second : get_or xs (k + 1) d ≡ y = rw e (first_at i y d lt y_is) in
        rw (first, second) refl

    path_at : (k : ℕ) (d : Entry) → k + 1 ≡ i → (get_or xs k d).path ≡ x.path
    path_at k d e =
        let back : k ≡ i - 1 = omega arith in
        rw back (ap (λ (z : Entry). z.path) (first_at (i - 1) x d (omega arith) x_is))

    -- the two at hand pass the test
    pub found_neighbours : (found : Option (List ℕ)) (least : Option (List ℕ)) → IsLeastOr by_bytes (HasNeighbours test xs i) found → test x y ≡ true → least ≡ Some (lesser_of found x.path)
        → IsLeastOr by_bytes (HasNeighbours test xs (i + 1)) least
    found_neighbours found least was passes is =
        let up : i - 1 + 1 ≡ i = omega arith in
        rw is
        (IsLeastOr-more (HasNeighbours test xs i) (HasNeighbours test xs (i + 1)) found x.path was (keeps_neighbours i)
        (record { at = i - 1; within = omega arith; inside = omega arith; passes = λ d. test_at (i - 1) d up ∙ passes; path_is = λ d. path_at (i - 1) d up })
        (λ p h. elim (neighbours_or i p h) [ inl before ↦ inl before | inr here ↦ inr (sym (here.0.path_is x) ∙ path_at here.0.at x here.1) ]))

    -- they don't
    pub no_neighbours : (found : Option (List ℕ)) → IsLeastOr by_bytes (HasNeighbours test xs i) found → test x y ≡ false → IsLeastOr by_bytes (HasNeighbours test xs (i + 1)) found
    no_neighbours found was fails =
        IsLeastOr-same by_bytes (HasNeighbours test xs i) (HasNeighbours test xs (i + 1)) found was (keeps_neighbours i)
        (λ p h. elim (neighbours_or i p h) [
          | inl before ↦ before
          | inr here ↦ absurd (false≢true (sym fails ∙ sym (test_at here.0.at x here.1) ∙ here.0.passes x))
        ])

module _ (xs : List Entry) (above : List ℕ) where
  keeps_below : (i : ℕ) (p : List ℕ) → HasBelow xs above i p → HasBelow xs above (i + 1) p
  keeps_below i p h = let lt : h.at < i = h.within in record { at = h.at; within = omega arith; under = h.under; path_is = h.path_is }

  below_or : (i : ℕ) (p : List ℕ) → HasBelow xs above (i + 1) p → HasBelow xs above i p ⊎ (h : HasBelow xs above (i + 1) p) × (h.at ≡ i)
  below_or i p h =
      elim (last_or h.at i h.within) [
        | inl below ↦ inl (record { at = h.at; within = below; under = h.under; path_is = h.path_is })
        | inr same ↦ inr (h, same)
      ]

  module _ (i : ℕ) (x : Entry) (lt : i < length xs) (x_is : x ≡ get_or xs i x) where
    entry_at : (k : ℕ) (d : Entry) → k ≡ i → get_or xs k d ≡ x
    entry_at k d e = rw e (get_or_default xs i d x lt ∙ sym x_is)

    pub found_below : (found : Option (List ℕ)) (least : Option (List ℕ)) → IsLeastOr by_bytes (HasBelow xs above i) found → stands_under above x ≡ true → least ≡ Some (lesser_of found x.path)
        → IsLeastOr by_bytes (HasBelow xs above (i + 1)) least
    found_below found least was under is =
        rw is
        (IsLeastOr-more (HasBelow xs above i) (HasBelow xs above (i + 1)) found x.path was (keeps_below i)
        (record { at = i; within = omega arith; under = λ d. ap (λ (z : Entry). stands_under above z) (entry_at i d refl) ∙ under; path_is = λ d. ap (λ (z : Entry). z.path) (entry_at i d refl) })
        (λ p h. elim (below_or i p h) [ inl before ↦ inl before | inr here ↦ inr (sym (here.0.path_is x) ∙ ap (λ (z : Entry). z.path) (entry_at here.0.at x here.1)) ]))

    pub no_below : (found : Option (List ℕ)) → IsLeastOr by_bytes (HasBelow xs above i) found → stands_under above x ≡ false → IsLeastOr by_bytes (HasBelow xs above (i + 1)) found
    no_below found was apart =
        IsLeastOr-same by_bytes (HasBelow xs above i) (HasBelow xs above (i + 1)) found was (keeps_below i)
        (λ p h. elim (below_or i p h) [
          | inl before ↦ before
          | inr here ↦ absurd (false≢true (sym apart ∙ sym (ap (λ (z : Entry). stands_under above z) (entry_at here.0.at x here.1)) ∙ here.0.under x))
        ])

-- ---- all entries were looked at

pub all_neighbours : (test : Entry → Entry → Bool) (xs : List Entry) (i : ℕ) (found : Option (List ℕ)) → length xs ≤ i → IsLeastOr by_bytes (HasNeighbours test xs i) found
    → IsLeastOr by_bytes (HasNeighbours test xs (length xs)) found
all_neighbours test xs i found past h =
    IsLeastOr-same by_bytes (HasNeighbours test xs i) (HasNeighbours test xs (length xs)) found h
    (λ p n. record { at = n.at; within = n.inside; inside = n.inside; passes = n.passes; path_is = n.path_is })
    (λ p n. let lt : n.at + 1 < length xs = n.inside in record { at = n.at; within = omega arith; inside = n.inside; passes = n.passes; path_is = n.path_is })

pub all_below : (xs : List Entry) (above : List ℕ) (i : ℕ) (found : Option (List ℕ)) → i ≡ length xs → IsLeastOr by_bytes (HasBelow xs above i) found → IsLeastOr by_bytes (HasBelow xs above (length xs)) found
all_below xs above i found e h = rw (← e) h
