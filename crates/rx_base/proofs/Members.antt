-- Members of a list: `Contains` of std, and the same by recursion.
use Rattle.std.proofs.Common.{◌≡◌, ℕ, zero, suc, ◌<◌, ◌⊎◌, inl, inr, Bool, true, false, cond, List, [], ◌∷◌, filter, map, length, get_or, refl, sym, ◌∙◌, ap, subst, arith, true≢false}
use Rattle.std.specs.Cmp.{both_ways}
use Rattle.std.specs.List.{list_any, AllByRecursion, Any, Contains}
use Rattle.std.proofs.lemmas.List.Elements.{All-contains, All-from_recursion, Contains-get_or, recursion_from_All}
use Rattle.std.proofs.lemmas.List.Folds.{Any-from_list_any, list_any-from_Any, list_any_at}
use Rattle.rx_base.specs.SortedPaths.{HasSameMembers}

-- ---- `Contains`, item by item

pub Contains-head : {A : Type 0} (x : A) (xs : List A) → Contains (x ∷ xs) x
Contains-head x xs = (zero, omega arith, refl)

pub Contains-later : {A : Type 0} (x : A) (xs : List A) (q : A) → Contains xs q → Contains (x ∷ xs) q
Contains-later x xs q c = (suc c.0, omega (arith, c.1), c.2)

from_cons : {A : Type 0} (x : A) (xs : List A) (q : A) (k : ℕ) → k < length (x ∷ xs) → get_or (x ∷ xs) k q ≡ q → (x ≡ q) ⊎ Contains xs q
from_cons x xs q zero lt e = inl e
from_cons x xs q (suc k) lt e = inr (k, omega arith, e)

pub Contains-cons_cases : {A : Type 0} (x : A) (xs : List A) (q : A) → Contains (x ∷ xs) q → (x ≡ q) ⊎ Contains xs q
Contains-cons_cases x xs q c = from_cons x xs q c.0 c.1 c.2

pub not_in_nothing : {A : Type 0} (q : A) → Contains [] q → ⊥
not_in_nothing q c = let lt = c.1 in omega arith

pub Contains-one : {A : Type 0} (x q : A) → Contains (x ∷ []) q → x ≡ q
Contains-one x q c = elim (Contains-cons_cases x [] q c) [ inl e ↦ e | inr later ↦ absurd (not_in_nothing q later) ]

-- ---- members of a list that a function or a test gave

pub Contains-map : {A B : Type 0} (f : A → B) (xs : List A) (x : A) → Contains xs x → Contains (map f xs) (f x)
Contains-map f [] x c = absurd (not_in_nothing x c)
Contains-map f (y ∷ ys) x c =
    elim (Contains-cons_cases y ys x c) [
      | inl is ↦ subst (λ z. Contains (f y ∷ map f ys) (f z)) is (Contains-head (f y) (map f ys))
      | inr later ↦ Contains-later (f y) (map f ys) (f x) (Contains-map f ys x later)
    ]

pub Contains-from_map : {A B : Type 0} (f : A → B) (xs : List A) (q : B) → Contains (map f xs) q → (x : A) × Contains xs x × (f x ≡ q)
Contains-from_map f [] q c = absurd (not_in_nothing q c)
Contains-from_map f (x ∷ xs) q c =
    elim (Contains-cons_cases (f x) (map f xs) q c) [
      | inl is ↦ (x, Contains-head x xs, is)
      | inr later ↦ let rest = Contains-from_map f xs q later in (rest.0, Contains-later x xs rest.0 rest.1, rest.2)
    ]

pub Contains-filter : {A : Type 0} (test : A → Bool) (xs : List A) (q : A) → Contains xs q → test q ≡ true → Contains (filter test xs) q
Contains-filter test [] q c e = absurd (not_in_nothing q c)
Contains-filter test (x ∷ xs) q c e =
    elim (test x) as (λ b. test x ≡ b → Contains (cond b (x ∷ filter test xs) (filter test xs)) q) [
      | true ↦ λ f.
          elim (Contains-cons_cases x xs q c) [
            | inl is ↦ subst (λ y. Contains (x ∷ filter test xs) y) is (Contains-head x (filter test xs))
            | inr later ↦ Contains-later x (filter test xs) q (Contains-filter test xs q later e)
          ]
      | false ↦ λ f.
          elim (Contains-cons_cases x xs q c) [
            | inl is ↦ absurd (true≢false (sym e ∙ ap test (sym is) ∙ f))
            | inr later ↦ Contains-filter test xs q later e
          ]
    ] refl

pub Contains-from_filter : {A : Type 0} (test : A → Bool) (xs : List A) (q : A) → Contains (filter test xs) q → Contains xs q × (test q ≡ true)
Contains-from_filter test [] q c = absurd (not_in_nothing q c)
Contains-from_filter test (x ∷ xs) q c =
    elim (test x) as (λ b. test x ≡ b → Contains (cond b (x ∷ filter test xs) (filter test xs)) q → Contains (x ∷ xs) q × (test q ≡ true)) [
      | true ↦ λ e c.
          elim (Contains-cons_cases x (filter test xs) q c) [
            | inl is ↦ (subst (λ y. Contains (x ∷ xs) y) is (Contains-head x xs), ap test (sym is) ∙ e)
            | inr later ↦ let rest = Contains-from_filter test xs q later in (Contains-later x xs q rest.0, rest.1)
          ]
      | false ↦ λ e c. let rest = Contains-from_filter test xs q c in (Contains-later x xs q rest.0, rest.1)
    ] refl c

-- ---- the same by recursion

abbrev pub Among : {A : Type 0} → A → List A → Type 0
Among q [] = ⊥
Among q (x ∷ xs) = (x ≡ q) ⊎ Among q xs

among_at : {A : Type 0} (q : A) (xs : List A) (k : ℕ) → k < length xs → get_or xs k q ≡ q → Among q xs
among_at q [] k lt e = absurd (omega arith)
among_at q (x ∷ xs) zero lt e = inl e
among_at q (x ∷ xs) (suc k) lt e = inr (among_at q xs k (omega arith) e)

pub Among-from_contains : {A : Type 0} (q : A) (xs : List A) → Contains xs q → Among q xs
Among-from_contains q xs c = among_at q xs c.0 c.1 c.2

pub Contains-from_among : {A : Type 0} (q : A) (xs : List A) → Among q xs → Contains xs q
Contains-from_among q [] a = absurd a
Contains-from_among q (x ∷ xs) (inl e) = (0, omega arith, e)
Contains-from_among q (x ∷ xs) (inr a) = let c = Contains-from_among q xs a in (suc c.0, omega (arith, c.1), c.2)

-- ---- facts of each member

pub All-among : {A : Type 0} (P : A → Type 0) (q : A) (xs : List A) → AllByRecursion P xs → Among q xs → P q
All-among P q [] all a = absurd a
All-among P q (x ∷ xs) all (inl e) = subst P e all.0
All-among P q (x ∷ xs) all (inr a) = All-among P q xs all.1 a

pub All-member : {A : Type 0} (P : A → Type 0) (xs : List A) (q : A) → AllByRecursion P xs → Contains xs q → P q
All-member P xs q all c = All-contains P xs q (All-from_recursion P xs all) c

pub All-members : {A : Type 0} (P : A → Type 0) (xs : List A) → ((q : A) → Contains xs q → P q) → AllByRecursion P xs
All-members P xs h = recursion_from_All P xs (λ k d lt. h (get_or xs k d) (Contains-get_or xs k d lt))

-- ---- tests of members

pub list_any-member : {A : Type 0} (test : A → Bool) (xs : List A) (q : A) → Contains xs q → test q ≡ true → list_any test xs ≡ true
list_any-member test xs q c t = list_any_at test xs c.0 q c.1 (subst (λ x. test x ≡ true) (sym c.2) t)

list_any-more : {A : Type 0} (test : A → Bool) (xs ys : List A) → ((q : A) → Contains xs q → Contains ys q) → list_any test xs ≡ true → list_any test ys ≡ true
list_any-more test xs ys more h =
    let found : Any (λ x. test x ≡ true) xs = Any-from_list_any test xs h in
    let there = more found.1 (found.0, found.2, found.3) in
    list_any-from_Any test ys (there.0, found.1, there.1, there.2, found.4)

-- a test finds something in both of two lists with the same members, or in none
pub list_any-same_members : {A : Type 0} (test : A → Bool) (xs ys : List A) → HasSameMembers xs ys → list_any test xs ≡ list_any test ys
list_any-same_members test xs ys same =
    both_ways (list_any test xs) (list_any test ys) (list_any-more test xs ys (λ q. (same q).0)) (list_any-more test ys xs (λ q. (same q).1))
