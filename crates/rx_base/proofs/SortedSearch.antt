-- Where the paths above and below a path stand in a sorted list.
use Rattle.std.proofs.Common.{◌≡◌, ℕ, zero, suc, ◌+◌, ◌<◌, ◌≤◌, Bool, true, false, not, ◌||◌, ◌⊎◌, inl, inr, nat_lt, ◌==◌, List, [], ◌∷◌, ◌++◌, length, take, drop, get_or, slice_index, Some, None, Result, Ok, Err, refl, sym, ap, subst, ◌∙◌, arith, true≢false, position}
use Rattle.std.proofs.lemmas.Bool.{cases_Bool, cases_lt, not-true}
use Rattle.std.proofs.lemmas.Bool.Decides.{nat_tests}
use Rattle.std.proofs.lemmas.List.{append_assoc, length-append, length-take-le, take-append-drop}
use Rattle.std.proofs.lemmas.Option.{none-some}
use Rattle.std.proofs.Math.Bool.{or-false, or-true}
use Rattle.std.proofs.Math.Seq.{drop-cons, take-append_seam, take-length}
use Rattle.std.proofs.lemmas.Cmp.{nat_list_cmp_total, tied_itself}
use Rattle.std.proofs.lemmas.List.Folds.{list_any_at, list_any_none}
use Rattle.std.proofs.lemmas.List.Quantifiers.{position-Some}
use Rattle.std.proofs.lemmas.List.Sorted.{searchable_from_sorted}
use Rattle.std.proofs.lemmas.List.Sums.{prefix_len_is, prefix_len_passes}
use Rattle.std.proofs.lemmas.Map.Keys.{Less-from_sorted}
use Rattle.std.proofs.lemmas.Map.Text.{is_eq-slice_cmp}
use Rattle.std.proofs.lemmas.Slice.Eq.{bytes_eq-Decides}
use Rattle.std.specs.declared.cmp.Ordering.TheVariants.{Less, Equal}
use Rattle.std.specs.Cmp.Lexicographic.{slice_cmp}
use Rattle.std.specs.List.{list_any, position_or_len}
use Rattle.std.specs.Option.{is_some}
use Rattle.std.specs.List.Sorted.{IsBinarySearchResult, IsNonDecreasingBy, IsPartitionPoint, IsPartitionedBy, IsSearchInRange}
use Rattle.std.specs.Ordering.{is_eq, is_lt, nat_cmp, ordering_index}
use Rattle.std.specs.Result.{result_ok}
use Rattle.std.specs.Str.{bytes_eq}
use Rattle.rx_base.specs.Paths.{is_below}
use Rattle.rx_base.specs.SortedPaths.{first_above, first_at_or_above, first_below, is_before, AreSorted}
use Rattle.rx_base.proofs.FrontOrder.{between, front_less, not_both, not_self, started, starts, starts_not_before, turned}
use Rattle.rx_base.proofs.Orderings.{greater_not_equal, less_not_equal, Less-from_is_lt}

-- ---- the first place at which a test passes

position_at : (p : List ℕ → Bool) (xs : List (List ℕ)) (i : ℕ) → i < length xs → p (get_or xs i []) ≡ true → ((k : ℕ) → k < i → p (get_or xs k []) ≡ false) → position p xs ≡ Some i
position_at p xs i within here before =
    let is : position_or_len p xs ≡ i = prefix_len_is (λ x. not (p x)) xs i [] (omega arith) (λ k lt. rw (before k lt) refl) (λ _. rw here refl) in
    let test : nat_lt i (length xs) ≡ true = grind (arith, nat_tests) in
    rw (is, test) refl

position_none : (p : List ℕ → Bool) (xs : List (List ℕ)) → ((k : ℕ) → k < length xs → p (get_or xs k []) ≡ false) → position p xs ≡ None
position_none p xs none =
    let is : position_or_len p xs ≡ length xs = prefix_len_is (λ x. not (p x)) xs (length xs) [] (omega arith) (λ k lt. rw (none k lt) refl) (λ lt. absurd (omega arith)) in
    let test : nat_lt (length xs) (length xs) ≡ false = grind (arith, nat_tests) in
    rw (is, test) refl

-- where no place is found, the test passes at none
position_none_at : (p : List ℕ → Bool) (xs : List (List ℕ)) (k : ℕ) (d : List ℕ) → k < length xs → position p xs ≡ None → p (get_or xs k d) ≡ false
position_none_at p xs k d lt e =
    elim (nat_lt (position_or_len p xs) (length xs)) as (λ b. nat_lt (position_or_len p xs) (length xs) ≡ b → p (get_or xs k d) ≡ false) [
      | true ↦ λ t. absurd (none-some (position_or_len p xs) (sym (rw t at e)))
      | false ↦ λ t.
          let all : length xs ≤ position_or_len p xs = grind (arith, nat_tests) in
          not-true (p (get_or xs k d)) (prefix_len_passes (λ x. not (p x)) xs k d (omega arith))
    ] refl

-- a place is found just where the test passes at some
pub position_is_any : (p : List ℕ → Bool) (xs : List (List ℕ)) → is_some (position p xs) ≡ list_any p xs
position_is_any p xs =
    elim (position p xs) as (λ o. position p xs ≡ o → is_some o ≡ list_any p xs) [
      | None ↦ λ e. sym (list_any_none p xs (λ k d lt. position_none_at p xs k d lt e))
      | Some i ↦ λ e. let h = position-Some p xs i [] e in sym (list_any_at p xs i [] h.0 h.1)
    ] refl

-- what passes at no earlier place and at this one under another test
position_other : (p q : List ℕ → Bool) (xs : List (List ℕ)) → ((k : ℕ) → k < length xs → p (get_or xs k []) ≡ q (get_or xs k [])) → position p xs ≡ position q xs
position_other p q xs same =
    elim (position q xs) as (λ o. position q xs ≡ o → position p xs ≡ o) [
      | None ↦ λ e. position_none p xs (λ k lt. same k lt ∙ position_none_at q xs k [] lt e)
      | Some i ↦ λ e.
          let h = position-Some q xs i [] e in
          position_at p xs i h.0 (same i h.0 ∙ h.1) (λ k lt. same k (omega (arith, lt, h.0)) ∙ h.2 k lt)
    ] refl

-- ---- the front of a path that is a path above it

pub record IsFront (path other : List ℕ) : Type 0 where
  pub short : length other < length path
  pub is : other ≡ take (length other) path
  pub upper : (length other ≡ 0) ⊎ (slice_index path (length other) ≡ 47)

at_seam : (front rest : List ℕ) (c : ℕ) → slice_index (front ++ c ∷ rest) (length front) ≡ c
at_seam [] rest c = refl
at_seam (f ∷ fs) rest c = at_seam fs rest c

fronted : (path front rest : List ℕ) → path ≡ front ++ 47 ∷ rest → IsFront path front
fronted path front rest e = record {
  short = omega (arith, ap length e, length-append front (47 ∷ rest));
  is = sym (rw e (take-append_seam front (47 ∷ rest)));
  upper = inr (rw e (at_seam front rest 47));
}

-- what stands above a path is a front of it, up to a slash
front_of : (path other : List ℕ) → is_below path other ≡ true → IsFront path other
front_of path [] h = record { short = grind (arith, nat_tests); is = refl; upper = inl refl }
front_of path (x ∷ xs) h =
    let some : (length (x ∷ xs) == 0) ≡ false = grind (arith, nat_tests) in
    let e = started path ((x ∷ xs) ++ 47 ∷ []) (rw some at h) in
    fronted path (x ∷ xs) _ (e ∙ append_assoc (x ∷ xs) (47 ∷ []) _)

-- such a front stands above
is_below-front : (path : List ℕ) (at : ℕ) → at < length path → (at ≡ 0) ⊎ (slice_index path at ≡ 47) → is_below path (take at path) ≡ true
is_below-front path zero within upper = grind (arith, nat_tests)
is_below-front path (suc at) within (inl none) = absurd (omega (arith, none))
is_below-front path (suc at) within (inr slash) =
    let size : length (take (suc at) path) ≡ suc at = length-take-le (suc at) path (omega arith) in
    let some : (length (take (suc at) path) == 0) ≡ false = grind (arith, nat_tests) in
    let e : path ≡ take (suc at) path ++ 47 ∷ drop (suc (suc at)) path = sym (take-append-drop (suc at) path) ∙ ap (λ t. take (suc at) path ++ t) (drop-cons path (suc at) 0 within ∙ ap (λ c. c ∷ drop (suc (suc at)) path) slash) in
    rw some (starts path (take (suc at) path ++ 47 ∷ []) (drop (suc (suc at)) path) (e ∙ sym (append_assoc (take (suc at) path) (47 ∷ []) (drop (suc (suc at)) path))))

-- a longer front isn't before a shorter one
front_order : (path low high : List ℕ) (at k : ℕ) → slice_cmp nat_cmp high low ≡ Less → at ≤ k → k ≤ length path → high ≡ take k path → low ≡ take at path → ⊥
front_order path low high at k lt le within is_high is_low =
    let order : slice_cmp nat_cmp (take k path) (take at path) ≡ Less = rw (← is_high, ← is_low) lt in
    elim (cases_lt at k) [
      | inl below ↦ not_both (take k path) (take at path) order (front_less path at k below within)
      | inr above ↦ not_self (take at path) (subst (λ n. slice_cmp nat_cmp (take n path) (take at path) ≡ Less) {x = k} {y = at} (omega arith) order)
    ]

-- a front of a path is before it
front_before : (path other : List ℕ) → IsFront path other → slice_cmp nat_cmp other path ≡ Less
front_before path other f =
    let order = front_less path (length other) (length path) f.short (omega arith) in
    subst (λ t. slice_cmp nat_cmp t path ≡ Less) (sym f.is) (rw take-length at order)

-- the paths at the upper slashes of a path, up to this place, are not in the list
pub record NoUpper (paths : List (List ℕ)) (path : List ℕ) (at : ℕ) : Type 0 where
  pub none : (k : ℕ) → k < at → (k ≡ 0) ⊎ (slice_index path k ≡ 47) → position (λ other. bytes_eq (take k path) other) paths ≡ None

pub NoUpper-start : (paths : List (List ℕ)) (path : List ℕ) → NoUpper paths path 0
NoUpper-start paths path = record { none = λ k lt upper. absurd (omega arith) }

pub NoUpper-more : (paths : List (List ℕ)) (path : List ℕ) (at : ℕ) → NoUpper paths path at → ((at ≡ 0) ⊎ (slice_index path at ≡ 47) → position (λ other. bytes_eq (take at path) other) paths ≡ None) → NoUpper paths path (at + 1)
NoUpper-more paths path at h here = record {
  none = λ k lt upper.
      elim (cases_lt k at) [
        | inl below ↦ h.none k below upper
        | inr above ↦
            let is : at ≡ k = omega arith in
            subst (λ n. position (λ other. bytes_eq (take n path) other) paths ≡ None) is (here (subst (λ n. (n ≡ 0) ⊎ (slice_index path n ≡ 47)) (sym is) upper))
      ];
}

-- ---- a text among sorted paths

module _ (paths : List (List ℕ)) (s : AreSorted paths) where
  less : (i j : ℕ) → i < j → j < length paths → slice_cmp nat_cmp (get_or paths i []) (get_or paths j []) ≡ Less
  less i j lt within = Less-from_sorted (slice_cmp nat_cmp) paths i j [] s lt within

  falls : (k : ℕ) (d : List ℕ) → k + 1 < length paths → is_lt (slice_cmp nat_cmp (get_or paths (k + 1) d) (get_or paths k d)) ≡ false
  falls k d lt = rw (turned _ _ (Less-from_sorted (slice_cmp nat_cmp) paths k (k + 1) d s (omega arith) lt)) refl

  rises : (text : List ℕ) → IsNonDecreasingBy (λ path. ordering_index (slice_cmp nat_cmp path text)) paths
  rises text = searchable_from_sorted nat_list_cmp_total (λ path. path) paths text (λ k d low lt. falls k d lt)

  -- what a binary search by a text finds
  pub found : (text : List ℕ) (r : Result ℕ ℕ) → IsSearchInRange r (length paths) → IsBinarySearchResult (λ path. slice_cmp nat_cmp path text) paths r → result_ok r ≡ position (λ path. bytes_eq text path) paths
  found text (Ok i) within equal =
      let is : get_or paths i [] ≡ text = (bytes_eq-Decides _ _).0 (sym (is_eq-slice_cmp (get_or paths i []) text) ∙ ap is_eq (equal [])) in
      sym (position_at (λ path. bytes_eq text path) paths i within ((bytes_eq-Decides _ _).1 (sym is))
      (λ k lt. elim (cases_Bool (bytes_eq text (get_or paths k []))) [
        | inr differs ↦ differs
        | inl ties ↦
            let same : text ≡ get_or paths k [] = (bytes_eq-Decides _ _).0 ties in
            absurd (not_self text (subst (λ t. slice_cmp nat_cmp t text ≡ Less) (sym same) (subst (λ t. slice_cmp nat_cmp (get_or paths k []) t ≡ Less) is (less k i lt within))))
      ]))
  found text (Err i) within parted =
      let parts = parted (rises text) in
      sym (position_none (λ path. bytes_eq text path) paths (λ k lt. elim (cases_Bool (bytes_eq text (get_or paths k []))) [
        | inr differs ↦ differs
        | inl ties ↦
            let equal : slice_cmp nat_cmp (get_or paths k []) text ≡ Equal = subst (λ t. slice_cmp nat_cmp t text ≡ Equal) ((bytes_eq-Decides _ _).0 ties) (tied_itself nat_list_cmp_total text) in
            elim (cases_lt k i) [
              | inl below ↦ absurd (less_not_equal (sym (parts.0 k [] (omega arith) below) ∙ equal))
              | inr above ↦ absurd (greater_not_equal (sym (parts.1 k [] above lt) ∙ equal))
            ]
      ]))

  -- ---- the paths above a path

  -- a path of the list above the path is one at a later slash
  later : (path : List ℕ) (at j : ℕ) → NoUpper paths path at → j < length paths → is_below path (get_or paths j []) ≡ true
      → (k : ℕ) × (at ≤ k) × (k < length path) × (get_or paths j [] ≡ take k path)
  later path at j h within above =
      let f = front_of path (get_or paths j []) above in
      elim (cases_lt (length (get_or paths j [])) at) [
        | inr le ↦ (length (get_or paths j []), le, f.short, f.is)
        | inl lt ↦
            let none = position_none_at (λ other. bytes_eq (take (length (get_or paths j [])) path) other) paths j [] within (h.none (length (get_or paths j [])) lt f.upper) in
            absurd (true≢false (sym ((bytes_eq-Decides _ _).1 (sym f.is)) ∙ none))
      ]

  -- the first that is found, from the root on, is the first above the path
  pub first_found : (path : List ℕ) (at i : ℕ) → NoUpper paths path at → at < length path → (at ≡ 0) ⊎ (slice_index path at ≡ 47)
      → position (λ other. bytes_eq (take at path) other) paths ≡ Some i → first_above paths path ≡ Some i
  first_found path at i h within upper e =
      let p = position-Some (λ other. bytes_eq (take at path) other) paths i [] e in
      let is : take at path ≡ get_or paths i [] = (bytes_eq-Decides _ _).0 p.1 in
      position_at (λ other. is_below path other) paths i p.0 (rw (← is) (is_below-front path at within upper))
      (λ k lt. elim (cases_Bool (is_below path (get_or paths k []))) [
        | inr differs ↦ differs
        | inl above ↦
            let f = later path at k h (omega (arith, lt, p.0)) above in
            absurd (front_order path (get_or paths i []) (get_or paths k []) at f.0 (less k i lt p.0) f.1 (omega (arith, f.2)) f.3 (sym is))
      ])

  pub none_found : (path : List ℕ) → NoUpper paths path (length path) → first_above paths path ≡ None
  none_found path h =
      position_none (λ other. is_below path other) paths (λ k lt. elim (cases_Bool (is_below path (get_or paths k []))) [
        | inr differs ↦ differs
        | inl above ↦ let f = later path (length path) k h lt above in absurd (omega (arith, f.1, f.2))
      ])

  -- what stands above a path stands before it
  pub above_first : (path : List ℕ) (i : ℕ) → first_above paths path ≡ Some i → first_at_or_above paths path ≡ Some i
  above_first path i e =
      let p = position-Some (λ other. is_below path other) paths i [] e in
      let f = front_of path (get_or paths i []) p.1 in
      position_at (λ other. bytes_eq path other || is_below path other) paths i p.0 (rw p.1 (or-true (bytes_eq path (get_or paths i []))))
      (λ k lt. elim (cases_Bool (bytes_eq path (get_or paths k []))) [
        | inr differs ↦ rw (differs, p.2 k lt) refl
        | inl ties ↦
            let same : path ≡ get_or paths k [] = (bytes_eq-Decides _ _).0 ties in
            absurd (not_both (get_or paths k []) (get_or paths i []) (less k i lt p.0) (subst (λ t. slice_cmp nat_cmp (get_or paths i []) t ≡ Less) same (front_before path (get_or paths i []) f)))
      ])

  pub at_first : (path : List ℕ) → first_above paths path ≡ None → position (λ other. bytes_eq path other) paths ≡ first_at_or_above paths path
  at_first path e =
      position_other (λ other. bytes_eq path other) (λ other. bytes_eq path other || is_below path other) paths
      (λ k lt. rw (position_none_at (λ other. is_below path other) paths k [] lt e) (sym (or-false (bytes_eq path (get_or paths k [])))))

  -- ---- the paths below a path

  -- those before all that begin with a path and a slash come first
  pub before_first : (path : List ℕ) → IsPartitionedBy (λ other. is_before other path) paths
  before_first path i j d le lt before =
      elim (cases_lt i j) [
        | inr same ↦ subst (λ n. is_before (get_or paths n d) path ≡ true) {x = j} {y = i} (omega arith) before
        | inl below ↦
            ap is_lt (nat_list_cmp_total.trans (get_or paths i d) (get_or paths j d) (path ++ 47 ∷ []) (Less-from_sorted (slice_cmp nat_cmp) paths i j d s below lt) (Less-from_is_lt _ before))
      ]

  module _ (path : List ℕ) (at : ℕ) (some : (length path == 0) ≡ false)
      (parted : IsPartitionPoint (λ other. is_before other path ≡ true) (λ other. is_before other path ≡ false) paths at) where
    begins : (k : ℕ) → is_below (get_or paths k []) path ≡ true → get_or paths k [] ≡ (path ++ 47 ∷ []) ++ drop (length (path ++ 47 ∷ [])) (get_or paths k [])
    begins k below = started (get_or paths k []) (path ++ 47 ∷ []) (rw some at below)

    -- what is before all that begin so doesn't
    not_earlier : (k : ℕ) → k < at → is_below (get_or paths k []) path ≡ false
    not_earlier k lt = elim (cases_Bool (is_below (get_or paths k []) path)) [
      | inr differs ↦ differs
      | inl below ↦
          let late : is_before (get_or paths k []) path ≡ false = rw (begins k below) (starts_not_before (path ++ 47 ∷ []) (drop (length (path ++ 47 ∷ [])) (get_or paths k []))) in
          absurd (true≢false (sym (parted.0 k [] (omega arith) lt) ∙ late))
    ]

    pub below_found : at < length paths → is_below (get_or paths at []) path ≡ true → first_below paths path ≡ Some at
    below_found within below = position_at (λ other. is_below other path) paths at within below not_earlier

    -- where the first that could begin so doesn't, none does
    pub below_none : (at < length paths → is_below (get_or paths at []) path ≡ false) → first_below paths path ≡ None
    below_none differs = position_none (λ other. is_below other path) paths (λ k lt. elim (cases_lt k at) [
      | inl early ↦ not_earlier k early
      | inr from ↦ elim (cases_Bool (is_below (get_or paths k []) path)) [
        | inr none ↦ none
        | inl below ↦ elim (cases_lt at k) [
          | inr same ↦ absurd (true≢false (sym below ∙ subst (λ n. is_below (get_or paths n []) path ≡ false) {x = at} {y = k} (omega arith) (differs (omega arith))))
          | inl after ↦
              let rest = drop (length (path ++ 47 ∷ [])) (get_or paths k []) in
              let order : is_lt (slice_cmp nat_cmp (get_or paths k []) (get_or paths at [])) ≡ false = rw (turned (get_or paths at []) (get_or paths k []) (less at k after lt)) refl in
              let high = subst (λ t. is_lt (slice_cmp nat_cmp t (get_or paths at [])) ≡ false) (begins k below) order in
              let here : is_below (get_or paths at []) path ≡ true = rw some (between (path ++ 47 ∷ []) (get_or paths at []) rest (parted.1 at [] (omega arith) (omega arith)) high) in
              absurd (true≢false (sym here ∙ differs (omega arith)))
        ]
      ]
    ])
