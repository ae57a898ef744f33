-- A walk sees each path once.
use Rattle.std.proofs.Common.{◌≡◌, ◌∙◌, ℕ, zero, suc, ◌+◌, ◌<◌, ◌≤◌, ◌==◌, ◌&&◌, inl, inr, Bool, true, false, not, List, [], ◌∷◌, ◌++◌, length, get_or, Option, Some, None, cond, refl, sym, ap, subst, arith}
use Rattle.std.specs.declared.cmp.Ordering.{Ordering}
use Rattle.std.specs.declared.cmp.Ordering.TheVariants.{Less, Equal, Greater}
use Rattle.std.specs.Ordering.{is_lt, nat_cmp, ordering_reverse}
use Rattle.std.specs.FinMap.{nat_cmp-IsAntisymmetric, slice_cmp-IsAntisymmetric}
use Rattle.std.specs.Cmp.Lexicographic.{slice_cmp}
use Rattle.std.specs.List.{AllByRecursion, Contains, count_by}
use Rattle.std.specs.List.Sorted.{IsPermutation, IsSorted, IsStrictlySortedBy}
use Rattle.std.specs.Str.{bytes_eq}
use Rattle.std.proofs.lemmas.Bool.{and_parts, cases_lt, false≢true}
use Rattle.std.proofs.lemmas.Cmp.{nat_list_cmp_total}
use Rattle.std.proofs.lemmas.List.{append_cancel_left, get_or_default}
use Rattle.std.proofs.lemmas.List.Sorted.{ranks_by, sorted_far, sum_by-IsPermutation}
use Rattle.std.proofs.lemmas.List.Sums.{sum_by-cons}
use Rattle.std.proofs.lemmas.List.Elements.{Contains-append_cases}
use Rattle.std.proofs.lemmas.Slice.Eq.{bytes_eq-Decides}
use Rattle.rx_base.specs.Paths.{IsName, joined, parts}
use Rattle.rx_base.proofs.Orders.{IsStrictlySortedBy-sorted_once}
use Rattle.rx_base.proofs.PathAgain.{parts-joined}
use Rattle.rx_base.proofs.Lists.{All-append}
use Rattle.rx_base.proofs.Members.{All-member, All-members, Contains-head, Contains-later}
use Rattle.rx_tree.specs.Entries.{Content}
use Rattle.rx_tree.specs.Planting.{directory_of}
use Rattle.rx_tree.specs.Refusals.{by_bytes}
use Rattle.rx_tree.specs.Trees.{Tree, End, File, Dir, Rest, forest, levels, names_in, planted, tree_of, within}
use Rattle.rx_tree.specs.Walks.{is_bare}
use Rattle.rx_tree.proofs.CanonicalLaws.{IsLower}
use Rattle.rx_tree.proofs.CountLaws.{tally, tally-append, tally-some}
use Rattle.rx_tree.proofs.ForestLaws.{IsBare, file_of, names_in-from, sub_of}
use Rattle.rx_tree.proofs.Members.{sorted_tail}
use Rattle.rx_tree.proofs.NameOrder.{is_equal}
use Rattle.rx_tree.proofs.SeenLaws.{bare_path-from, dirs-from, forest_told-from, is_bare-from, path_on}
use Rattle.rx_tree.proofs.TreeLemmas.{levels-within, tree_of-at, tree_of-names}
use Rattle.rx_tree.proofs.TreeMembers.{on_from, within-from}
use Rattle.rx_tree.proofs.TreeRuns.{firsts, later_differs}
use Rattle.rx_tree.proofs.TreeWalks.{bare_in, below}

-- ---- what is there once, in order

abbrev has_path : {A : Type 0} → (A → List ℕ) → List ℕ → A → Bool
has_path key path x = bytes_eq (key x) path

-- no path comes twice
abbrev pub IsOnce : {A : Type 0} → (A → List ℕ) → List A → Type 0
IsOnce key xs = (path : List ℕ) → tally (has_path key path) xs ≤ 1

abbrev by_key : {A : Type 0} → (A → List ℕ) → A → A → Ordering
by_key key x y = by_bytes (key x) (key y)

tally-count : {A : Type 0} (test : A → Bool) (xs : List A) → tally test xs ≡ count_by test xs
tally-count test [] = refl
tally-count test (x ∷ xs) = let rest = tally-count test xs in let one = sum_by-cons (λ y. cond (test y) 1 0) x xs in omega arith

pub once-permutation : {A : Type 0} (key : A → List ℕ) (xs ys : List A) → IsPermutation xs ys → IsOnce key xs → IsOnce key ys
once-permutation key xs ys same once path =
    let few = once path in
    let front = tally-count (has_path key path) xs in
    let back = tally-count (has_path key path) ys in
    let moved = sum_by-IsPermutation (λ x. cond (has_path key path x) 1 0) xs ys same in
    omega arith

once_tail : {A : Type 0} (key : A → List ℕ) (x : A) (xs : List A) → IsOnce key (x ∷ xs) → IsOnce key xs
once_tail key x xs once path = let few = once path in omega arith

same_twice : {A : Type 0} (key : A → List ℕ) (x y : A) (xs : List A) → IsOnce key (x ∷ xs) → Contains xs y → key x ≡ key y → ⊥
same_twice key x y xs once c same =
    let few = once (key x) in
    let first : has_path key (key x) x ≡ true = (bytes_eq-Decides (key x) (key x)).1 refl in
    let second : has_path key (key x) y ≡ true = (bytes_eq-Decides (key y) (key x)).1 (sym same) in
    let some = rw second at (tally-some (has_path key (key x)) xs y c) in
    let all = rw first at few in
    omega arith

above_first : {A : Type 0} (key : A → List ℕ) (x y : A) (xs : List A) → IsSorted (by_key key) (x ∷ xs) → IsOnce key (x ∷ xs) → Contains xs y → by_key key x y ≡ Less
above_first key x y xs up once c =
    let far : is_lt (by_key key (get_or xs c.0 x) x) ≡ false = sorted_far (λ a b. is_lt (by_key key a b)) (ranks_by nat_list_cmp_total key) (x ∷ xs) up zero (suc c.0) x (omega arith) (omega (arith, c.1)) in
    let at : get_or xs c.0 x ≡ y = get_or_default xs c.0 x y c.1 ∙ c.2 in
    let low : is_lt (by_key key y x) ≡ false = subst (λ z. is_lt (by_key key z x) ≡ false) at far in
    elim (by_key key x y) as (λ o. by_key key x y ≡ o → o ≡ Less) [
      | Less ↦ λ e. refl
      | Equal ↦ λ e. absurd (same_twice key x y xs once c (is_equal (key x) (key y) e))
      | Greater ↦ λ e. absurd (false≢true (sym low ∙ ap is_lt (nat_list_cmp_total.antisymm (key y) (key x) ∙ ap ordering_reverse e)))
    ] refl

pub strictly_sorted : {A : Type 0} (key : A → List ℕ) (xs : List A) → IsSorted (by_key key) xs → IsOnce key xs → IsStrictlySortedBy (by_key key) xs
unfolding IsStrictlySortedBy
strictly_sorted key [] up once = tt
strictly_sorted key (x ∷ xs) up once = (
  All-members (λ y. by_key key x y ≡ Less) xs (λ y c. above_first key x y xs up once c),
  strictly_sorted key xs (sorted_tail (by_key key) x xs up) (once_tail key x xs once),
)

-- ---- names of a path

some_passes : {A : Type 0} (test : A → Bool) (xs : List A) → 0 < tally test xs → (x : A) × Contains xs x × (test x ≡ true)
some_passes test [] some = absurd (omega arith)
some_passes test (x ∷ xs) some =
    elim (test x) as (λ b. test x ≡ b → 0 < cond b 1 0 + tally test xs → (y : _) × Contains (x ∷ xs) y × (test y ≡ true)) [
      | true ↦ λ e some. (x, Contains-head x xs, e)
      | false ↦ λ e some. let rest = some_passes test xs (omega arith) in (rest.0, Contains-later x xs rest.0 rest.1, rest.2)
    ] refl some

on_not_empty : (at : List (List ℕ)) (n : List ℕ) (ns : List (List ℕ)) → 0 < length (at ++ n ∷ ns)
on_not_empty [] n ns = omega arith
on_not_empty (x ∷ xs) n ns = omega arith

-- a path has one first name on from a directory's
one_first : (at : List (List ℕ)) (n m : List ℕ) (ns ms : List (List ℕ)) → AllByRecursion IsName at → AllByRecursion IsName (n ∷ ns) → AllByRecursion IsName (m ∷ ms) → joined (at ++ n ∷ ns) ≡ joined (at ++ m ∷ ms) → n ≡ m
one_first at n m ns ms each g h e =
    let first = parts-joined (at ++ n ∷ ns) (on_not_empty at n ns) (All-append IsName at (n ∷ ns) each g) in
    let second = parts-joined (at ++ m ∷ ms) (on_not_empty at m ms) (All-append IsName at (m ∷ ms) each h) in
    let rest : n ∷ ns ≡ m ∷ ms = append_cancel_left at (n ∷ ns) (m ∷ ms) (sym first ∙ ap parts e ∙ second) in
    cc rest

-- ---- directories without entries

abbrev is_at : List ℕ → List ℕ → Bool
is_at path x = bytes_eq x path

nothing_below : {A : Type 0} (told : List (List ℕ) → Tree → List A) (at : List (List ℕ)) (t : Tree) → IsBare t → below told at t ≡ []
nothing_below told at End bare = refl
nothing_below told at (File n c t) bare = absurd (cc (bare.0))
nothing_below told at (Dir n s t) bare = absurd (cc (bare.1))

-- the names of a path on from a directory's
record LeadsTo (at : List (List ℕ)) (n path : List ℕ) : Type 0 where
  pub others : List (List ℕ)
  pub each : AllByRecursion IsName (n ∷ others)
  pub is : path ≡ joined (at ++ n ∷ others)

module _ (path : List ℕ) where
  bare_once : (at : List (List ℕ)) (t : Tree) → tally (is_at path) (below bare_in at t) ≤ 1 → tally (is_at path) (bare_in at t ++ below bare_in at t) ≤ 1
  bare_once at t down =
      let place = joined at in
      let both = tally-append (is_at path) (bare_in at t) (below bare_in at t) in
      elim (not (length place == 0) && is_bare (directory_of t)) as (λ b. (not (length place == 0) && is_bare (directory_of t)) ≡ b → tally (is_at path) (cond b (place ∷ []) [] ++ below bare_in at t) ≤ 1) [
        | true ↦ λ e.
            let none = nothing_below bare_in at t (is_bare-from t (and_parts (not (length place == 0)) (is_bare (directory_of t)) e).1) in
            rw none (elim (bytes_eq place path) as (λ b. cond b 1 0 + 0 ≤ 1) [ true ↦ omega arith | false ↦ omega arith ])
        | false ↦ λ e. down
      ] refl

  abbrev told_of : (List ℕ → Tree) → List (List ℕ) → List ℕ → List (List ℕ)
  told_of sub at n = bare_in (at ++ n ∷ []) (sub n) ++ below bare_in (at ++ n ∷ []) (sub n)

  -- what is told of one name is there once, and has the name
  record IsToldOnce (sub : List ℕ → Tree) (at : List (List ℕ)) (n : List ℕ) : Type 0 where
    pub once : tally (is_at path) (told_of sub at n) ≤ 1
    pub leads : Contains (told_of sub at n) path → LeadsTo at n path

  told_path : (xs : List (List ℕ)) → 0 < tally (is_at path) xs → Contains xs path
  told_path xs some = let x = some_passes (is_at path) xs some in subst (λ (p : List ℕ). Contains xs p) ((bytes_eq-Decides x.0 path).0 x.2) x.1

  forest_once : (file : List ℕ → Option Content) (sub : List ℕ → Tree) (at names : List (List ℕ)) → AllByRecursion IsName at → IsStrictlySortedBy (slice_cmp nat_cmp) names → AllByRecursion (IsToldOnce sub at) names
      → tally (is_at path) (below bare_in at (forest file sub names)) ≤ 1
  unfolding IsStrictlySortedBy
  forest_once file sub at [] each s h = omega arith
  forest_once file sub at (n ∷ ns) each s h =
      let t = forest file sub ns in
      let others = below bare_in at t in
      let rest = forest_once file sub at ns each s.1 h.1 in
      let one : tally (is_at path) (told_of sub at n) ≤ 1 = h.0.once in
      let both = tally-append (is_at path) (told_of sub at n) others in
      elim (file n) as (λ o. tally (is_at path) (below bare_in at (planted n o (sub n) t)) ≤ 1) [
        | Some c ↦ rest
        | None ↦
            elim (cases_lt 0 (tally (is_at path) (told_of sub at n))) [
              | inl here ↦
                  elim (cases_lt 0 (tally (is_at path) others)) [
                    | inl there ↦
                        let k = forest_told-from file sub at bare_in ns path (told_path others there) in
                        let first = h.0.leads (told_path (told_of sub at n) here) in
                        let second = (All-member (IsToldOnce sub at) ns k.name h.1 k.here).leads k.told_of in
                        let same = one_first at n k.name first.others second.others each first.each second.each (sym first.is ∙ second.is) in
                        absurd (later_differs n k.name (All-member (IsLower n) ns k.name s.0 k.here) same)
                    | inr none ↦ omega arith
                  ]
              | inr none ↦ omega arith
            ]
      ]

  pub dirs_once : (most : ℕ) (rs : List Rest) (at : List (List ℕ)) → levels rs ≤ most → AllByRecursion IsName at → ((q : Rest) → Contains rs q → AllByRecursion IsName q.names) → tally (is_at path) (below bare_in at (tree_of rs)) ≤ 1
  dirs_once zero rs at le each names = rw (tree_of-at zero rs le) (omega arith)
  dirs_once (suc most) rs at le each names =
      rw (tree_of-names rs)
      (forest_once (file_of rs) (sub_of rs) at (names_in rs) each (IsStrictlySortedBy-sorted_once nat_list_cmp_total (slice_cmp-IsAntisymmetric nat_cmp-IsAntisymmetric) (firsts rs))
      (All-members (IsToldOnce (sub_of rs) at) (names_in rs) (λ n c.
      let q = names_in-from rs n c in
      let one : IsName n = (names (on_from n q.0) q.1).0 in
      let on = at ++ n ∷ [] in
      let s = tree_of (within n rs) in
      let few = levels-within n rs in
      let down : (r : Rest) → Contains (within n rs) r → AllByRecursion IsName r.names = λ r d. (names (on_from n r) (within-from n rs r d)).1 in
      record {
        once = bare_once on s (dirs_once most (within n rs) on (omega arith) (All-append IsName at (n ∷ []) each (one, tt)) down);
        leads = λ t. elim (Contains-append_cases (bare_in on s) (below bare_in on s) path t) [
          | inl bare ↦ record { others = []; each = (one, tt); is = sym (bare_path-from (joined on) s path bare).1 }
          | inr under ↦
              let d = dirs-from most (within n rs) on path (omega arith) under in
              record {
                others = d.first ∷ d.others;
                each = (one, down (record { names = d.first ∷ d.others; file = None }) d.listed);
                is = path_on at n (d.first ∷ d.others) path d.is;
              }
        ];
      })))
