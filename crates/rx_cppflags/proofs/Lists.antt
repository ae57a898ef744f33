-- Facts of each item of a list.
use Rattle.std.proofs.Common.{◌≡◌, ℕ, Bool, true, false, List, [], ◌∷◌, filter, Option, Some, None, refl, cond}
use Rattle.std.specs.List.{AllByRecursion, list_any, cons_option}
use Rattle.std.specs.declared.cmp.Ordering.{Ordering}
use Rattle.std.specs.Ordering.{is_eq, is_lt, nat_cmp}
use Rattle.std.specs.Cmp.Lexicographic.{slice_cmp}
use Rattle.std.proofs.lemmas.Bool.{cond_both, or_parts}
use Rattle.rx_base.specs.SortedPaths.{inserted, sorted_once, sorted_paths}

pub each : {A : Type 0} (P Q R : A → Type 0) → ((x : A) → P x → Q x → R x) → (xs : List A) → AllByRecursion P xs → AllByRecursion Q xs → AllByRecursion R xs
each P Q R f [] p q = tt
each P Q R f (x ∷ xs) p q = (f x p.0 q.0, each P Q R f xs p.1 q.1)

pub none_passes : {A : Type 0} (test : A → Bool) (xs : List A) → list_any test xs ≡ false → AllByRecursion (λ x. test x ≡ false) xs
none_passes test [] e = tt
none_passes test (x ∷ xs) e = ((or_parts (test x) (list_any test xs) e).0, none_passes test xs (or_parts (test x) (list_any test xs) e).1)

pub with_option : {A : Type 0} (P : A → Type 0) (o : Option A) (xs : List A) → ((x : A) → o ≡ Some x → P x) → AllByRecursion P xs → AllByRecursion P (cons_option o xs)
with_option P None xs f p = p
with_option P (Some x) xs f p = (f x refl, p)

of_inserted : {K : Type 0} (P : K → Type 0) (compare : K → K → Ordering) (item : K) (items : List K) → P item → AllByRecursion P items → AllByRecursion P (inserted compare item items)
of_inserted P compare item [] h p = (h, tt)
of_inserted P compare item (other ∷ others) h p =
    cond_both (is_lt (compare item other)) (item ∷ other ∷ others) (cond (is_eq (compare item other)) (other ∷ others) (other ∷ inserted compare item others)) (λ found. AllByRecursion P found)
    (λ _. (h, p))
    (λ _. cond_both (is_eq (compare item other)) (other ∷ others) (other ∷ inserted compare item others) (λ found. AllByRecursion P found)
    (λ _. p)
    (λ _. (p.0, of_inserted P compare item others h p.1)))

of_sorted_once : {K : Type 0} (P : K → Type 0) (compare : K → K → Ordering) (items : List K) → AllByRecursion P items → AllByRecursion P (sorted_once compare items)
of_sorted_once P compare [] p = tt
of_sorted_once P compare (item ∷ items) p = of_inserted P compare item (sorted_once compare items) p.0 (of_sorted_once P compare items p.1)

pub of_passing : {A : Type 0} (P : A → Type 0) (test : A → Bool) (xs : List A) → AllByRecursion P xs → AllByRecursion P (filter test xs)
of_passing P test [] p = tt
of_passing P test (x ∷ xs) p =
    cond_both (test x) (x ∷ filter test xs) (filter test xs) (λ found. AllByRecursion P found)
    (λ _. (p.0, of_passing P test xs p.1))
    (λ _. of_passing P test xs p.1)

pub all_pass : {A : Type 0} (test : A → Bool) (xs : List A) → AllByRecursion (λ x. test x ≡ true) (filter test xs)
all_pass test [] = tt
all_pass test (x ∷ xs) =
    cond_both (test x) (x ∷ filter test xs) (filter test xs) (λ found. AllByRecursion (λ y. test y ≡ true) found)
    (λ e. (e, all_pass test xs))
    (λ _. all_pass test xs)

-- what holds of each path holds of each sorted path
pub of_sorted : (P : List ℕ → Type 0) (paths : List (List ℕ)) → AllByRecursion P paths → AllByRecursion P (sorted_paths paths)
of_sorted P paths p = of_sorted_once P (slice_cmp nat_cmp) paths p
