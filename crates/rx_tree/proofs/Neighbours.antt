-- Entries in order: what clashes stands side by side.
use Rattle.std.proofs.Common.{◌≡◌, ◌∙◌, ℕ, zero, suc, ◌+◌, ◌<◌, ◌≤◌, ◌⊎◌, inl, inr, Bool, true, false, ◌&&◌, List, [], ◌∷◌, ◌++◌, Option, Some, None, cond, length, get_or, refl, sym, ap, subst, arith, append-nil}
use Rattle.std.specs.Prelude.{is_some, is_none}
use Rattle.std.specs.declared.cmp.Ordering.TheVariants.{Less}
use Rattle.std.specs.Ordering.{bool_cmp, is_lt}
use Rattle.std.specs.List.{count_by}
use Rattle.std.specs.List.Sorted.{IsSorted}
use Rattle.std.specs.Str.{bytes_eq}
use Rattle.std.proofs.lemmas.Bool.{and_from, and_parts, cases_lt, false≢true, or_cases, or_left, or_right}
use Rattle.std.proofs.lemmas.List.{get_or_default}
use Rattle.std.proofs.lemmas.List.Sums.{sum_by-cons}
use Rattle.std.proofs.lemmas.List.Sorted.{ranks_by, sorted_far}
use Rattle.std.proofs.lemmas.Slice.Eq.{bytes_eq-Decides}
use Rattle.rx_base.specs.Paths.{is_below}
use Rattle.rx_base.proofs.Orderings.{then-not_less}
use Rattle.rx_tree.specs.Entries.{Entry, names_of}
use Rattle.rx_tree.specs.Places.{by_names, by_place, by_place_total}
use Rattle.rx_tree.specs.Refusals.{IsTwice, IsClash, is_file_at, is_same_file, is_under, stands_under}
use Rattle.rx_tree.specs.Search.{HasNeighbours, HasBelow}
use Rattle.rx_tree.proofs.NameOrder.{between, by_names-on, names_equal, not_less_both}
use Rattle.rx_tree.proofs.NamesLemmas.{below-names, below-from_names, names_of-same}

-- ---- tests

pub same_path : (p q : List ℕ) → bytes_eq p q ≡ true → p ≡ q
same_path p q e = (bytes_eq-Decides p q).0 e

pub is_path : (p q : List ℕ) → p ≡ q → bytes_eq p q ≡ true
is_path p q e = (bytes_eq-Decides p q).1 e

some_or_none : {A : Type 0} (o : Option A) → (is_some o ≡ true) ⊎ (is_none o ≡ true)
some_or_none None = inr refl
some_or_none (Some x) = inl refl

some_not_none : {A : Type 0} (o : Option A) → is_some o ≡ true → is_none o ≡ false
some_not_none None e = absurd (cc e)
some_not_none (Some x) e = refl

not_none_some : {A : Type 0} (o : Option A) → is_none o ≡ false → is_some o ≡ true
not_none_some None e = absurd (cc e)
not_none_some (Some x) e = refl

pub same_file-parts : (x y : Entry) → is_same_file x y ≡ true → (is_some x.file ≡ true) × (is_some y.file ≡ true) × (x.path ≡ y.path)
same_file-parts x y e =
    let first = and_parts (is_some x.file) (is_some y.file && bytes_eq x.path y.path) e in
    let second = and_parts (is_some y.file) (bytes_eq x.path y.path) first.1 in
    (first.0, second.0, same_path x.path y.path second.1)

same_file-from : (x y : Entry) → is_some x.file ≡ true → is_some y.file ≡ true → x.path ≡ y.path → is_same_file x y ≡ true
same_file-from x y e f g = and_from _ _ e (and_from _ _ f (is_path x.path y.path g))

-- ---- names that go on from a file's

pub same_or_under : (x w : Entry) → is_some x.file ≡ true → (more : List (List ℕ)) → names_of w.path ≡ names_of x.path ++ more → (is_same_file x w ≡ true) ⊎ (is_under x w ≡ true)
same_or_under x w file [] e =
    let path : w.path ≡ x.path = names_of-same w.path x.path (e ∙ append-nil (names_of x.path)) in
    elim (some_or_none w.file) [
      | inl some ↦ inl (same_file-from x w file some (sym path))
      | inr none ↦ inr (and_from _ _ file (or_right (is_below w.path x.path) (is_none w.file && bytes_eq w.path x.path) (and_from _ _ none (is_path w.path x.path path))))
    ]
same_or_under x w file (n ∷ ns) e =
    inr (and_from _ _ file (or_left (is_below w.path x.path) (is_none w.file && bytes_eq w.path x.path) (below-from_names w.path x.path n ns e)))

-- ---- counts

pub counted : (test : Entry → Bool) (x : Entry) (xs : List Entry) (b : Bool) → test x ≡ b → count_by test (x ∷ xs) ≡ cond b 1 0 + count_by test xs
counted test x xs b e = sum_by-cons (λ (y : Entry). cond (test y) 1 0) x xs ∙ ap (λ (c : Bool). cond c 1 0 + count_by test xs) e

one_at : (test : Entry → Bool) (xs : List Entry) → 0 < count_by test xs → (j : ℕ) × (j < length xs) × ((d : Entry) → test (get_or xs j d) ≡ true)
one_at test [] some = absurd (omega arith)
one_at test (x ∷ xs) some =
    elim (test x) as (λ b. test x ≡ b → (j : ℕ) × (j < length (x ∷ xs)) × ((d : Entry) → test (get_or (x ∷ xs) j d) ≡ true)) [
      | true ↦ λ e. (zero, omega arith, λ d. e)
      | false ↦ λ e. let n = counted test x xs false e in let rest = one_at test xs (omega arith) in (suc rest.0, omega (arith, rest.1), rest.2)
    ] refl

two_at : (test : Entry → Bool) (xs : List Entry) → 1 < count_by test xs
    → (i : ℕ) × (j : ℕ) × (i < j) × (j < length xs) × ((d : Entry) → test (get_or xs i d) ≡ true) × ((d : Entry) → test (get_or xs j d) ≡ true)
two_at test [] some = absurd (omega arith)
two_at test (x ∷ xs) some =
    elim (test x) as (λ b. test x ≡ b → (i : ℕ) × (j : ℕ) × (i < j) × (j < length (x ∷ xs)) × ((d : Entry) → test (get_or (x ∷ xs) i d) ≡ true) × ((d : Entry) → test (get_or (x ∷ xs) j d) ≡ true)) [
      | true ↦ λ e. let n = counted test x xs true e in let rest = one_at test xs (omega arith) in (zero, suc rest.0, omega arith, omega (arith, rest.1), λ d. e, rest.2)
      | false ↦ λ e. let n = counted test x xs false e in let rest = two_at test xs (omega arith) in (suc rest.0, suc rest.1, omega (arith, rest.2), omega (arith, rest.3), rest.4, rest.5)
    ] refl

pub some_count : (test : Entry → Bool) (xs : List Entry) (j : ℕ) → j < length xs → ((d : Entry) → test (get_or xs j d) ≡ true) → 0 < count_by test xs
some_count test [] j lt h = absurd (omega arith)
some_count test (x ∷ xs) zero lt h = let n = counted test x xs true (h x) in omega arith
some_count test (x ∷ xs) (suc j) lt h = let rest = some_count test xs j (omega arith) h in let n = counted test x xs (test x) refl in omega arith

two_count : (test : Entry → Bool) (xs : List Entry) (i : ℕ) → suc i < length xs → ((d : Entry) → test (get_or xs i d) ≡ true) → ((d : Entry) → test (get_or xs (suc i) d) ≡ true) → 1 < count_by test xs
two_count test [] i lt h k = absurd (omega arith)
two_count test (x ∷ xs) zero lt h k = let rest = some_count test xs zero (omega arith) k in let n = counted test x xs true (h x) in omega arith
two_count test (x ∷ xs) (suc i) lt h k = let rest = two_count test xs i (omega arith) h k in let n = counted test x xs (test x) refl in omega arith

get_or_first : (xs : List Entry) (i : ℕ) → i < length xs → Entry
get_or_first [] i lt = absurd (omega arith)
get_or_first (x ∷ xs) i lt = x

-- ---- neighbours

module _ (xs : List Entry) (up : IsSorted by_place xs) where
  far : (i j : ℕ) (d : Entry) → i ≤ j → j < length xs → is_lt (by_place (get_or xs j d) (get_or xs i d)) ≡ false
  far = sorted_far (λ x y. is_lt (by_place x y)) (ranks_by by_place_total (λ (x : Entry). x)) xs up

  -- files of one path stand side by side
  pub twice-neighbours : (p : List ℕ) → IsTwice xs p → HasNeighbours is_same_file xs (length xs) p
  twice-neighbours p twice =
      let at = two_at (is_file_at p) xs twice in
      let i = at.0 in
      let j = at.1 in
      let lt : i < j = at.2 in
      let within : j < length xs = at.3 in
      let first = λ (d : Entry). and_parts (is_some (get_or xs i d).file) (bytes_eq (get_or xs i d).path p) (at.4 d) in
      let last = λ (d : Entry). and_parts (is_some (get_or xs j d).file) (bytes_eq (get_or xs j d).path p) (at.5 d) in
      record {
        at = i;
        within = omega arith;
        inside = omega arith;
        passes = λ d.
            let x = get_or xs i d in
            let y = get_or xs (i + 1) d in
            let z = get_or xs j d in
            let path : x.path ≡ z.path = same_path x.path p (first d).1 ∙ sym (same_path z.path p (last d).1) in
            let kind : is_none x.file ≡ is_none z.file = some_not_none x.file (first d).0 ∙ sym (some_not_none z.file (last d).0) in
            let low : is_lt (by_place y x) ≡ false = far i (i + 1) d (omega arith) (omega arith) in
            let high : is_lt (by_place z y) ≡ false = far (i + 1) j d (omega arith) within in
            let alike : is_lt (by_place x y) ≡ false = rw (path, kind) high in
            let equal = not_less_both x y low alike in
            same_file-from x y (first d).0 (not_none_some y.file (sym equal.1 ∙ some_not_none x.file (first d).0)) (names_of-same x.path y.path equal.0);
        path_is = λ d. same_path (get_or xs i d).path p (first d).1;
      }

  pub neighbours-twice : (p : List ℕ) → HasNeighbours is_same_file xs (length xs) p → IsTwice xs p
  neighbours-twice p h =
      let next : h.at + 1 ≡ suc h.at = omega arith in
      let lt : h.at + 1 < length xs = h.within in
      two_count (is_file_at p) xs h.at (omega arith)
      (λ d. let parts = same_file-parts (get_or xs h.at d) (get_or xs (h.at + 1) d) (h.passes d) in and_from _ _ parts.0 (is_path _ _ (h.path_is d)))
      (λ d. let parts = same_file-parts (get_or xs h.at d) (get_or xs (h.at + 1) d) (h.passes d) in
      subst (λ (k : ℕ). is_file_at p (get_or xs k d) ≡ true) next (and_from _ _ parts.1 (is_path _ _ (sym parts.2 ∙ h.path_is d))))

  -- ---- what stands under a file

  -- names that go on, or a directory of the same path
  under-names : (x y : Entry) → is_under x y ≡ true → (is_some x.file ≡ true) × (more : List (List ℕ)) × (names_of y.path ≡ names_of x.path ++ more) × (by_place x y ≡ Less)
  under-names x y e =
      let parts = and_parts (is_some x.file) (stands_under x.path y) e in
      elim (or_cases (is_below y.path x.path) (is_none y.file && bytes_eq y.path x.path) parts.1) [
        | inl below ↦
            let on = below-names y.path x.path below in
            (parts.0, on.0 ∷ on.1, on.2, rw (on.2, by_names-on (names_of x.path) on.0 on.1) refl)
        | inr dir ↦
            let d = and_parts (is_none y.file) (bytes_eq y.path x.path) dir in
            let path : y.path ≡ x.path = same_path y.path x.path d.1 in
            (parts.0, [], ap names_of path ∙ sym (append-nil (names_of x.path)), rw (path, names_equal (names_of x.path), d.0, some_not_none x.file parts.0) refl)
      ]

  -- the file of a clash stands before what clashes with it
  first_of_clash : (x y : Entry) (i j : ℕ) → get_or xs i x ≡ x → get_or xs j y ≡ y → i < length xs → j < length xs → by_place x y ≡ Less → i < j
  first_of_clash x y i j x_is y_is i_in j_in less =
      elim (cases_lt i j) [
        | inl lt ↦ lt
        | inr ge ↦
            let apart = far j i x ge i_in in
            let at_j : get_or xs j x ≡ y = get_or_default xs j x y j_in ∙ y_is in
            let not_less : is_lt (by_place x y) ≡ false = subst (λ (z : Entry). is_lt (by_place x z) ≡ false) at_j (subst (λ (z : Entry). is_lt (by_place z (get_or xs j x)) ≡ false) x_is apart) in
            absurd (false≢true (sym not_less ∙ ap is_lt less))
      ]

  -- what stands between a file and an entry under it is the same file again, or under it too
  next_under : (x w y : Entry) → is_under x y ≡ true → is_lt (by_place w x) ≡ false → is_lt (by_place y w) ≡ false → (is_same_file x w ≡ true) ⊎ (is_under x w ≡ true)
  next_under x w y under low high =
      let names = under-names x y under in
      let low_names : is_lt (by_names (names_of w.path) (names_of x.path)) ≡ false = then-not_less (by_names (names_of w.path) (names_of x.path)) (bool_cmp (is_none w.file) (is_none x.file)) low in
      let high_names : is_lt (by_names (names_of y.path) (names_of w.path)) ≡ false = then-not_less (by_names (names_of y.path) (names_of w.path)) (bool_cmp (is_none y.file) (is_none w.file)) high in
      let on = between (names_of x.path) (names_of w.path) names.1 low_names (subst (λ (ns : List (List ℕ)). is_lt (by_names ns (names_of w.path)) ≡ false) names.2 high_names) in
      same_or_under x w names.0 on.0 on.1

  pub clash-neighbours : (paths : List ℕ × List ℕ) → ((p : List ℕ) → IsTwice xs p → ⊥) → IsClash xs paths → HasNeighbours is_under xs (length xs) paths.0
  clash-neighbours paths once clash =
      let x = clash.file in
      let y = clash.below in
      let names = under-names x y clash.under in
      let i = clash.has_file.0 in
      let j = clash.has_below.0 in
      let i_in : i < length xs = clash.has_file.1 in
      let j_in : j < length xs = clash.has_below.1 in
      let lt : i < j = first_of_clash x y i j clash.has_file.2 clash.has_below.2 i_in j_in names.3 in
      let x_at = λ (d : Entry). get_or_default xs i d x i_in ∙ clash.has_file.2 in
      let y_at = λ (d : Entry). get_or_default xs j d y j_in ∙ clash.has_below.2 in
      record {
        at = i;
        within = omega arith;
        inside = omega arith;
        passes = λ d.
            let w = get_or xs (i + 1) d in
            let low : is_lt (by_place w x) ≡ false = subst (λ (z : Entry). is_lt (by_place w z) ≡ false) (x_at d) (far i (i + 1) d (omega arith) (omega arith)) in
            let high : is_lt (by_place y w) ≡ false = subst (λ (z : Entry). is_lt (by_place z w) ≡ false) (y_at d) (far (i + 1) j d (omega arith) j_in) in
            elim (next_under x w y clash.under low high) [
              | inl same ↦ absurd (once x.path (neighbours-twice x.path (record {
                at = i;
                within = omega arith;
                inside = omega arith;
                passes = λ e.
                    let next : get_or xs (i + 1) e ≡ w = get_or_default xs (i + 1) e d (omega arith) in
                    subst (λ (z : Entry). is_same_file z (get_or xs (i + 1) e) ≡ true) (sym (x_at e)) (subst (λ (z : Entry). is_same_file x z ≡ true) (sym next) same);
                path_is = λ e. ap (λ (z : Entry). z.path) (x_at e);
              })))
              | inr under ↦ subst (λ (z : Entry). is_under z w ≡ true) (sym (x_at d)) under
            ];
        path_is = λ d. ap (λ (z : Entry). z.path) (x_at d) ∙ clash.file_path;
      }

  pub neighbours-clash : (p : List ℕ) → HasNeighbours is_under xs (length xs) p → (q : List ℕ) × IsClash xs (p, q)
  neighbours-clash p h =
      let lt : h.at + 1 < length xs = h.within in
      let d = get_or_first xs (h.at + 1) lt in
      let x = get_or xs h.at d in
      let y = get_or xs (h.at + 1) d in (
        y.path,
        record {
          file = x;
          below = y;
          has_file = (h.at, omega arith, get_or_default xs h.at x d (omega arith));
          has_below = (h.at + 1, lt, get_or_default xs (h.at + 1) y d lt);
          under = h.passes d;
          file_path = h.path_is d;
          below_path = refl;
        },
      )

  pub clash-below : (p q : List ℕ) → IsClash xs (p, q) → HasBelow xs p (length xs) q
  clash-below p q clash =
      let at = λ (d : Entry). get_or_default xs clash.has_below.0 d clash.below clash.has_below.1 ∙ clash.has_below.2 in
      record {
        at = clash.has_below.0;
        within = clash.has_below.1;
        under = λ d. subst (λ (z : Entry). stands_under p z ≡ true) (sym (at d)) (subst (λ (path : List ℕ). stands_under path clash.below ≡ true) clash.file_path (and_parts (is_some clash.file.file) (stands_under clash.file.path clash.below) clash.under).1);
        path_is = λ d. ap (λ (z : Entry). z.path) (at d) ∙ clash.below_path;
      }

  pub below-clash : (p q other : List ℕ) → IsClash xs (p, other) → HasBelow xs p (length xs) q → IsClash xs (p, q)
  below-clash p q other clash h =
      let d = clash.file in
      let y = get_or xs h.at d in
      record {
        file = clash.file;
        below = y;
        has_file = clash.has_file;
        has_below = (h.at, h.within, get_or_default xs h.at y d h.within);
        under = and_from _ _ (and_parts (is_some clash.file.file) (stands_under clash.file.path clash.below) clash.under).0 (subst (λ (path : List ℕ). stands_under path y ≡ true) (sym clash.file_path) (h.under d));
        file_path = clash.file_path;
        below_path = h.path_is d;
      }
