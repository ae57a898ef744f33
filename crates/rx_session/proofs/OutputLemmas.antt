-- Outputs among the other paths: searched once they are sorted.
use Rattle.std.proofs.Common.{◌≡◌, ℕ, Bool, true, false, not, get_or, ◌<◌, List, refl, sym, ◌∙◌, ◌≤◌, subst, take}
use Rattle.std.specs.Prelude.{if◌then◌else◌, length}
use Rattle.std.specs.List.{list_all, list_any}
use Rattle.std.proofs.lemmas.List.{take_all}
use Rattle.std.proofs.lemmas.List.Folds.{Any-from_list_any, list_any-from_Any, list_any_at}
use Rattle.std.specs.Cmp.{both_ways}
use Rattle.rx_base.specs.Paths.{is_below}
use Rattle.rx_base.specs.SortedPaths.{HasSameMembers}
use Rattle.rx_session.specs.Rules.{outputs_stand, some_above}
use Rattle.rx_base.proofs.Members.{list_any-same_members}
pub use Rattle.rx_base.proofs.SortedSearch.{position_is_any as found_any}

any_turned : {A B : Type 0} (r : A → B → Bool) (xs : List A) (ys : List B) → list_any (λ x. list_any (λ y. r x y) ys) xs ≡ true → list_any (λ y. list_any (λ x. r x y) xs) ys ≡ true
any_turned r xs ys h =
    let a = Any-from_list_any (λ x. list_any (λ y. r x y) ys) xs h in
    let b = Any-from_list_any (λ y. r a.1 y) ys a.4 in
    let inner : list_any (λ x. r x b.1) xs ≡ true = list_any-from_Any (λ x. r x b.1) xs (a.0, a.1, a.2, a.3, b.4) in
    list_any-from_Any (λ y. list_any (λ x. r x y) xs) ys (b.0, b.1, b.2, b.3, inner)

-- which list is gone through first doesn't matter
pub any_turn : {A B : Type 0} (r : A → B → Bool) (xs : List A) (ys : List B) → list_any (λ x. list_any (λ y. r x y) ys) xs ≡ list_any (λ y. list_any (λ x. r x y) xs) ys
any_turn r xs ys = both_ways (list_any (λ x. list_any (λ y. r x y) ys) xs) (list_any (λ y. list_any (λ x. r x y) xs) ys) (any_turned r xs ys) (any_turned (λ y x. r x y) ys xs)

-- whether one of the outputs is above one of the paths, by the paths
pub above_by_paths : (outputs paths : List (List ℕ)) → list_any (λ path. list_any (λ output. is_below path output) outputs) paths ≡ some_above outputs paths
unfolding some_above
above_by_paths outputs paths = any_turn (λ path output. is_below path output) paths outputs

-- the outputs may be sorted before
pub above_members : (outputs sorted paths : List (List ℕ)) → HasSameMembers outputs sorted → some_above sorted paths ≡ some_above outputs paths
unfolding some_above
above_members outputs sorted paths m = sym (list_any-same_members (λ output. list_any (λ path. is_below path output) paths) outputs sorted m)

pub both_members : (outputs sorted : List (List ℕ)) → HasSameMembers outputs sorted → some_above sorted sorted ≡ some_above outputs outputs
both_members outputs sorted m = above_members outputs sorted sorted m ∙ sym (above_by_paths outputs sorted) ∙ sym (list_any-same_members (λ path. list_any (λ output. is_below path output) outputs) outputs sorted m) ∙ above_by_paths outputs outputs

pub above_so : (outputs paths : List (List ℕ)) (i : ℕ) (path : List ℕ) → i < length paths → path ≡ get_or paths i path → list_any (λ output. is_below path output) outputs ≡ true → true ≡ some_above outputs paths
above_so outputs paths i path lt is h =
    let here = subst (λ (x : List ℕ). list_any (λ output. is_below x output) outputs ≡ true) is h in
    sym (list_any_at (λ (x : List ℕ). list_any (λ output. is_below x output) outputs) paths i path lt here) ∙ above_by_paths outputs paths

pub above_none : (outputs paths : List (List ℕ)) (i : ℕ) → length paths ≤ i → list_any (λ path. list_any (λ output. is_below path output) outputs) (take i paths) ≡ false → false ≡ some_above outputs paths
above_none outputs paths i le h = sym (rw (take_all i paths le) at h) ∙ above_by_paths outputs paths

-- the tests of outputs that were sorted are those of the outputs
pub stands : (directory : List ℕ) (inputs toolchain_inputs outputs sorted view seen : List (List ℕ)) → view ≡ outputs → seen ≡ sorted → HasSameMembers outputs sorted
    → list_all (λ output. is_below output directory) view ≡ true
    → (if some_above seen seen then false else if some_above seen inputs then false else not (some_above seen toolchain_inputs)) ≡ outputs_stand directory inputs toolchain_inputs outputs
unfolding outputs_stand
stands directory inputs toolchain_inputs outputs sorted view seen v w m below =
    let all : list_all (λ output. is_below output directory) outputs ≡ true = rw v at below in
    rw (all, w, both_members outputs sorted m, above_members outputs sorted inputs m, above_members outputs sorted toolchain_inputs m) refl
