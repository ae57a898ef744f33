-- The tree of a list of paths: name by name, and for each order of the list.
use Rattle.std.proofs.Common.{◌≡◌, ◌∙◌, ℕ, zero, suc, ◌-◌, ◌≤◌, true, false, List, [], ◌∷◌, ◌++◌, Option, cond, length, max, refl, sym, ap, arith}
use Rattle.std.specs.List.{flat_map}
use Rattle.std.specs.Str.{bytes_eq}
use Rattle.rx_tree.specs.Entries.{Content}
use Rattle.rx_tree.specs.Trees.{Tree, End, Rest, after, file_here, first_name, forest, levels, names_in, planted, tree_at, tree_of, within}

-- ---- as many levels as there are names

levels-after : (name : List ℕ) (file : Option Content) (names : List (List ℕ)) → levels (after name file names) ≤ length names - 1
levels-after name file [] = omega arith
levels-after name file (first ∷ names) =
    elim (bytes_eq first name) as (λ b. levels (cond b ((record { names = names; file = file }) ∷ []) []) ≤ length (first ∷ names) - 1) [ true ↦ omega arith | false ↦ omega arith ]

pub levels-append : (xs ys : List Rest) → levels (xs ++ ys) ≡ max (levels xs) (levels ys)
levels-append [] ys = omega arith
levels-append (x ∷ xs) ys = let rest = levels-append xs ys in omega arith

pub levels-within : (name : List ℕ) (rs : List Rest) → levels (within name rs) ≤ levels rs - 1
levels-within name [] = omega arith
levels-within name (r ∷ rs) =
    let rest = levels-within name rs in
    let first = levels-after name r.file r.names in
    let both = levels-append (after name r.file r.names) (within name rs) in
    omega arith

forest-same : (file : List ℕ → Option Content) (f g : List ℕ → Tree) (names : List (List ℕ)) → ((name : List ℕ) → f name ≡ g name) → forest file f names ≡ forest file g names
forest-same file f g [] h = refl
forest-same file f g (name ∷ names) h =
    ap (λ (t : Tree). planted name (file name) t (forest file f names)) (h name) ∙ ap (λ (t : Tree). planted name (file name) (g name) t) (forest-same file f g names h)

no_first : (names : List (List ℕ)) (others : List (List ℕ)) → length names ≡ 0 → others ≡ [] → first_name names ++ others ≡ []
no_first [] others e h = h
no_first (name ∷ names) others e h = absurd (omega arith)

-- no names at all
no_levels : (rs : List Rest) → levels rs ≡ 0 → flat_map (λ (rest : Rest). first_name rest.names) rs ≡ []
no_levels [] e = refl
no_levels (r ∷ rs) e = no_first r.names (flat_map (λ (rest : Rest). first_name rest.names) rs) (omega arith) (no_levels rs (omega arith))

tree_at-none : (most : ℕ) (rs : List Rest) → levels rs ≡ 0 → tree_at most rs ≡ End
tree_at-none zero rs e = refl
tree_at-none (suc most) rs e = rw (no_levels rs e) refl

-- more levels than there are names don't matter
tree_at-enough : (most more : ℕ) (rs : List Rest) → levels rs ≤ most → levels rs ≤ more → tree_at most rs ≡ tree_at more rs
tree_at-enough zero more rs le ge = sym (tree_at-none more rs (omega arith))
tree_at-enough (suc most) zero rs le ge = tree_at-none (suc most) rs (omega arith)
tree_at-enough (suc most) (suc more) rs le ge =
    forest-same (λ name. file_here (within name rs)) (λ name. tree_at most (within name rs)) (λ name. tree_at more (within name rs)) (names_in rs)
    (λ name. let fewer = levels-within name rs in tree_at-enough most more (within name rs) (omega arith) (omega arith))

pub tree_of-at : (most : ℕ) (rs : List Rest) → levels rs ≤ most → tree_of rs ≡ tree_at most rs
unfolding tree_of
tree_of-at most rs le = tree_at-enough (levels rs) most rs (omega arith) le

-- the tree, one level down
pub tree_of-names : (rs : List Rest) → tree_of rs ≡ forest (λ name. file_here (within name rs)) (λ name. tree_of (within name rs)) (names_in rs)
tree_of-names rs =
    tree_of-at (suc (levels rs)) rs (omega arith)
    ∙ forest-same (λ name. file_here (within name rs)) (λ name. tree_at (levels rs) (within name rs)) (λ name. tree_of (within name rs)) (names_in rs)
    (λ name. let fewer = levels-within name rs in sym (tree_of-at (levels rs) (within name rs) (omega arith)))
