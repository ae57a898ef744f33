-- What a search finds, and lists that have the same members.
use Rattle.std.proofs.Common.{◌≡◌, ℕ, ◌+◌, ◌<◌, ◌≤◌, Bool, true, false, not, ◌&&◌, ◌||◌, inl, inr, List, [], ◌∷◌, length, get_or, refl, sym, ap, ◌∙◌, arith}
use Rattle.std.specs.declared.cmp.Ordering.TheVariants.{Less}
use Rattle.std.specs.Ordering.{nat_cmp}
use Rattle.std.specs.Cmp.Lexicographic.{slice_cmp, nat_list_cmp_total}
use Rattle.std.specs.List.{list_any}
use Rattle.std.specs.Option.{is_some}
use Rattle.std.proofs.Math.Nat.{eq-or-lt_of_le}
use Rattle.std.proofs.lemmas.List.{get_or_default}
use Rattle.std.proofs.lemmas.Map.Keys.{sorted_from_all_adjacent}
use Rattle.std.proofs.Math.Bool.{not-not}
use Rattle.rx_base.specs.Paths.{is_below}
use Rattle.rx_base.specs.SortedPaths.{AreSorted, first_above, first_below}
use Rattle.rx_cppflags.specs.Outside.{is_apart}
use Rattle.rx_base.proofs.SortedSearch.{position_is_any}

-- ---- searches

moved : (a b c d : Bool) → ((a || b) || (c || d)) ≡ ((a || c) || (b || d))
moved true b c d = refl
moved false true true d = refl
moved false true false d = refl
moved false false true d = refl
moved false false false d = refl

any_of_two : {A : Type 0} (test other : A → Bool) (xs : List A) → list_any (λ x. test x || other x) xs ≡ (list_any test xs || list_any other xs)
any_of_two test other [] = refl
any_of_two test other (x ∷ xs) = rw (any_of_two test other xs) (moved (test x) (other x) (list_any test xs) (list_any other xs))

neither : (a b : Bool) → (not a && not b) ≡ not (a || b)
neither true b = refl
neither false b = refl

-- nothing above and nothing below
pub found_apart : (path : List ℕ) (others : List (List ℕ)) → (not (is_some (first_above others path)) && not (is_some (first_below others path))) ≡ is_apart others path
found_apart path others =
    let above : List ℕ → Bool = λ other. is_below path other in
    let below : List ℕ → Bool = λ other. is_below other path in
    neither (is_some (first_above others path)) (is_some (first_below others path))
    ∙ rw (position_is_any above others, position_is_any below others) (ap not (sym (any_of_two above below others)))

pub found_above : (path : List ℕ) (others : List (List ℕ)) (none : Bool) → is_some (first_above others path) ≡ not none → none ≡ false → none ≡ is_apart others path
found_above path others none e f =
    let above : is_some (first_above others path) ≡ true = rw f at e in
    f ∙ rw above at (found_apart path others)

pub none_above : (path : List ℕ) (others : List (List ℕ)) (none none_below : Bool) → is_some (first_above others path) ≡ not none → none ≡ true → is_some (first_below others path) ≡ not none_below
    → none_below ≡ is_apart others path
none_above path others none none_below e t b =
    let above : is_some (first_above others path) ≡ false = rw t at e in
    sym (not-not none_below) ∙ rw (above, b) at (found_apart path others)

-- ---- sorted lists

-- the paths below a place stand each before the next one
abbrev pub Ascends : List (List ℕ) → ℕ → Type 0
Ascends paths high = (k : ℕ) → k + 1 < high → slice_cmp nat_cmp (get_or paths k []) (get_or paths (k + 1) []) ≡ Less

pub ascends_more : (paths : List (List ℕ)) (i before : ℕ) (path next : List ℕ) → Ascends paths i → before + 1 ≡ i → i < length paths → path ≡ get_or paths before path → next ≡ get_or paths i next
    → slice_cmp nat_cmp path next ≡ Less → Ascends paths (i + 1)
ascends_more paths i before path next h b lt p n e k below =
    let k_le : k ≤ before = omega arith in
    elim (eq-or-lt_of_le k_le) [
      | inl is ↦
          let first : path ≡ get_or paths k [] = p ∙ get_or_default paths before path [] (omega arith) ∙ ap (λ (j : ℕ). get_or paths j []) (sym is) in
          let after : k + 1 ≡ i = omega arith in
          let second : next ≡ get_or paths (k + 1) [] = n ∙ get_or_default paths i next [] lt ∙ ap (λ (j : ℕ). get_or paths j []) (sym after) in
          ap (λ (x : List ℕ). slice_cmp nat_cmp x (get_or paths (k + 1) [])) (sym first) ∙ ap (λ (x : List ℕ). slice_cmp nat_cmp path x) (sym second) ∙ e
      | inr less ↦ h k (omega arith)
    ]

pub ascending : (paths : List (List ℕ)) (high : ℕ) → length paths ≤ high → Ascends paths high → AreSorted paths
ascending paths high le h = sorted_from_all_adjacent nat_list_cmp_total paths [] (λ k lt. h k (omega arith))
