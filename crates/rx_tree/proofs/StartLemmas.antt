-- A list of paths that has a tree, as its tree is built.
use Rattle.std.proofs.Common.{◌≡◌, ◌∙◌, ℕ, zero, suc, ◌<◌, inl, inr, Bool, true, false, List, [], ◌∷◌, length, get_or, append-nil, refl, sym, ap, subst, arith}
use Rattle.std.specs.Prelude.{is_some, is_none}
use Rattle.std.specs.Ordering.{bool_cmp, is_lt}
use Rattle.std.specs.List.{Contains, count_by}
use Rattle.std.specs.List.Sorted.{IsPermutation, IsSorted}
use Rattle.std.specs.Str.{bytes_eq}
use Rattle.std.proofs.lemmas.Bool.{and_from, cases_lt}
use Rattle.std.proofs.lemmas.List.{get_or_default}
use Rattle.std.proofs.lemmas.List.Sorted.{Contains-permutation, IsPermutation-map, IsPermutation-sym, ranks_by, sorted_far}
use Rattle.rx_base.proofs.Members.{All-members, Contains-head, Contains-later, Contains-from_map}
use Rattle.rx_base.proofs.Orderings.{then-not_less}
use Rattle.rx_tree.specs.Entries.{Entry, names_of}
use Rattle.rx_tree.specs.Places.{by_names, by_place, by_place_total}
use Rattle.rx_tree.specs.Planting.{Follows, IsReady}
use Rattle.rx_tree.specs.Refusals.{IsApart, IsTwice, is_file_at, is_same_file}
use Rattle.rx_tree.specs.Trees.{Rest, rests, tree, tree_of}
use Rattle.rx_tree.proofs.Members.{sorted_tail}
use Rattle.rx_tree.proofs.NamesLemmas.{names_of-same}
use Rattle.rx_tree.proofs.Neighbours.{counted, is_path, same_file-parts, same_or_under, some_count}
use Rattle.rx_tree.proofs.RefusalLemmas.{clash-entries, twice-entries}
use Rattle.rx_tree.proofs.TreeMembers.{HasOneFile, tree_of-members}

abbrev pub rest_of : Entry → Rest
rest_of entry = record { names = names_of entry.path; file = entry.file }

-- ---- members

-- ---- the entries behind the first

test_at : (test : Entry → Bool) (xs : List Entry) (y : Entry) (c : Contains xs y) → test y ≡ true → (d : Entry) → test (get_or xs c.0 d) ≡ true
test_at test xs y c e d = ap test (get_or_default xs c.0 d y c.1 ∙ c.2) ∙ e

two_here : (p : List ℕ) (x : Entry) (xs : List Entry) (y : Entry) → Contains xs y → is_file_at p x ≡ true → is_file_at p y ≡ true → IsTwice (x ∷ xs) p
two_here p x xs y c e f =
    let n = counted (is_file_at p) x xs true e in
    let some = some_count (is_file_at p) xs c.0 c.1 (test_at (is_file_at p) xs y c f) in
    omega arith

same_twice : (x y : Entry) → is_same_file x y ≡ true → (is_file_at x.path x ≡ true) × (is_file_at x.path y ≡ true)
same_twice x y e = let parts = same_file-parts x y e in (and_from (is_some x.file) (bytes_eq x.path x.path) parts.0 (is_path x.path x.path refl), and_from (is_some y.file) (bytes_eq y.path x.path) parts.1 (is_path y.path x.path (sym parts.2)))

apart_tail : (x : Entry) (xs : List Entry) → IsApart (x ∷ xs) → IsApart xs
apart_tail x xs h = record {
  once = λ p twice. let n = counted (is_file_at p) x xs (is_file_at p x) refl in h.once p (omega arith);
  apart = λ paths c. h.apart paths (record {
    file = c.file;
    below = c.below;
    has_file = Contains-later x xs c.file c.has_file;
    has_below = Contains-later x xs c.below c.has_below;
    under = c.under;
    file_path = c.file_path;
    below_path = c.below_path;
  });
}

follows : (x : Entry) (xs : List Entry) (y : Entry) → IsSorted by_place (x ∷ xs) → IsApart (x ∷ xs) → Contains xs y → Follows (rest_of x) (rest_of y)
follows x xs y up h c = record {
  later =
      let far : is_lt (by_place (get_or xs c.0 x) x) ≡ false = sorted_far (λ a b. is_lt (by_place a b)) (ranks_by by_place_total (λ (e : Entry). e)) (x ∷ xs) up zero (suc c.0) x (omega arith) (omega (arith, c.1)) in
      let at : get_or xs c.0 x ≡ y = get_or_default xs c.0 x y c.1 ∙ c.2 in
      then-not_less (by_names (names_of y.path) (names_of x.path)) (bool_cmp (is_none y.file) (is_none x.file)) (subst (λ (e : Entry). is_lt (by_place e x) ≡ false) at far);
  not_below = λ some more e.
      elim (same_or_under x y some more e) [
        | inl same ↦ let two = same_twice x y same in h.once x.path (two_here x.path x xs y c two.0 two.1)
        | inr under ↦ h.apart (x.path, y.path) (record {
          file = x;
          below = y;
          has_file = Contains-head x xs;
          has_below = Contains-later x xs y c;
          under = under;
          file_path = refl;
          below_path = refl;
        })
      ];
  not_same = λ some e.
      elim (same_or_under y x some [] (e ∙ sym (append-nil (names_of y.path)))) [
        | inl same ↦ let two = same_twice y x same in h.once y.path (two_here y.path x xs y c two.1 two.0)
        | inr under ↦ h.apart (y.path, x.path) (record {
          file = y;
          below = x;
          has_file = Contains-later x xs y c;
          has_below = Contains-head x xs;
          under = under;
          file_path = refl;
          below_path = refl;
        })
      ];
}

ready_of : (xs : List Entry) → IsSorted by_place xs → IsApart xs → IsReady (rests 0 xs)
ready_of [] up h = tt
ready_of (x ∷ xs) up h = (
  All-members (Follows (rest_of x)) (rests 0 xs)
      (λ q c. let from = Contains-from_map rest_of xs q c in subst (λ (r : Rest). Follows (rest_of x) r) from.2 (follows x xs from.0 up h from.1)),
  ready_of xs (sorted_tail by_place x xs up) (apart_tail x xs h),
)

-- ---- one file for each path

two_at_places : (test : Entry → Bool) (xs : List Entry) (i j : ℕ) → i < j → j < length xs → ((d : Entry) → test (get_or xs i d) ≡ true) → ((d : Entry) → test (get_or xs j d) ≡ true) → 1 < count_by test xs
two_at_places test [] i j lt in_j h k = absurd (omega arith)
two_at_places test (x ∷ xs) zero zero lt in_j h k = absurd (omega arith)
two_at_places test (x ∷ xs) zero (suc j) lt in_j h k = let n = counted test x xs true (h x) in let some = some_count test xs j (omega arith) k in omega arith
two_at_places test (x ∷ xs) (suc i) zero lt in_j h k = absurd (omega arith)
two_at_places test (x ∷ xs) (suc i) (suc j) lt in_j h k = let n = counted test x xs (test x) refl in let rest = two_at_places test xs i j (omega arith) (omega arith) h k in omega arith

same_entry : (xs : List Entry) (p : List ℕ) → (IsTwice xs p → ⊥) → (x y : Entry) → Contains xs x → Contains xs y → is_file_at p x ≡ true → is_file_at p y ≡ true → x ≡ y
same_entry xs p once x y c d e f =
    let i = c.0 in
    let j = d.0 in
    let in_i : i < length xs = c.1 in
    let in_j : j < length xs = d.1 in
    elim (cases_lt i j) [
      | inl lt ↦ absurd (once (two_at_places (is_file_at p) xs i j lt in_j (test_at (is_file_at p) xs x c e) (test_at (is_file_at p) xs y d f)))
      | inr ge ↦
          elim (cases_lt j i) [
            | inl lt ↦ absurd (once (two_at_places (is_file_at p) xs j i lt in_i (test_at (is_file_at p) xs y d f) (test_at (is_file_at p) xs x c e)))
            | inr le ↦
                let same : i ≡ j = omega arith in
                sym c.2 ∙ ap (λ (k : ℕ). get_or xs k x) same ∙ get_or_default xs j x y in_j ∙ d.2
          ]
    ]

pub one_file : (xs : List Entry) → IsApart xs → HasOneFile (rests 0 xs)
one_file xs h a b c d e f g =
    let x = Contains-from_map rest_of xs a c in
    let y = Contains-from_map rest_of xs b d in
    let names : names_of x.0.path ≡ names_of y.0.path = ap (λ (r : Rest). r.names) x.2 ∙ e ∙ sym (ap (λ (r : Rest). r.names) y.2) in
    let path : x.0.path ≡ y.0.path = names_of-same x.0.path y.0.path names in
    let x_some : is_some x.0.file ≡ true = ap (λ (r : Rest). is_some r.file) x.2 ∙ f in
    let y_some : is_some y.0.file ≡ true = ap (λ (r : Rest). is_some r.file) y.2 ∙ g in
    let same = same_entry xs x.0.path (h.once x.0.path) x.0 y.0 x.1 y.1 (and_from (is_some x.0.file) (bytes_eq x.0.path x.0.path) x_some (is_path x.0.path x.0.path refl))
    (and_from (is_some y.0.file) (bytes_eq y.0.path x.0.path) y_some (is_path y.0.path x.0.path (sym path))) in
    sym (ap (λ (r : Rest). r.file) x.2) ∙ ap (λ (z : Entry). z.file) same ∙ ap (λ (r : Rest). r.file) y.2

-- ---- sorted entries

module _ (entries xs : List Entry) (same : IsPermutation entries xs) (up : IsSorted by_place xs) (h : IsApart entries) where
  pub ready_sorted : IsReady (rests 0 xs)
  ready_sorted =
      ready_of xs up (record { once = λ p twice. h.once p (twice-entries entries xs same up p twice); apart = λ paths c. h.apart paths (clash-entries entries xs same up paths c) })

  pub tree_sorted : tree_of (rests 0 xs) ≡ tree entries
  tree_sorted =
      let moved = IsPermutation-map rest_of entries xs same in
      sym (tree_of-members (rests 0 entries) (rests 0 xs)
      (λ q. (Contains-permutation (rests 0 entries) (rests 0 xs) q moved, Contains-permutation (rests 0 xs) (rests 0 entries) q (IsPermutation-sym (rests 0 entries) (rests 0 xs) moved)))
      (one_file entries h))
