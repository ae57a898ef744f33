-- Each Directory of a tree with names is in its one form.
use Rattle.std.proofs.Common.{◌≡◌, ℕ, zero, suc, ◌+◌, ◌<◌, ◌^◌, ◌==◌, ◌⊎◌, inl, inr, Bool, true, false, List, [], ◌∷◌, ◌++◌, length, map, Option, Some, None, append-nil, length-append, eq-eqb, refl, sym, ap, subst, arith}
use Rattle.std.specs.Prelude.{codes, is_some}
use Rattle.std.specs.declared.cmp.Ordering.TheVariants.{Less}
use Rattle.std.specs.Ordering.{nat_cmp}
use Rattle.std.specs.Cmp.Lexicographic.{slice_cmp}
use Rattle.std.specs.FinMap.{nat_cmp-IsAntisymmetric, slice_cmp-IsAntisymmetric}
use Rattle.std.specs.List.{AllByRecursion, Contains, list_all, list_any}
use Rattle.std.specs.List.Sorted.{IsStrictlySortedBy}
use Rattle.std.proofs.lemmas.Bool.{ne_eqb}
use Rattle.std.proofs.lemmas.Cmp.{nat_list_cmp_total}
use Rattle.std.proofs.lemmas.List.Elements.{Contains-append_cases, Contains-append_left, Contains-append_right}
use Rattle.rx_base.specs.Paths.{IsName, Lacks}
use Rattle.rx_base.specs.SortedPaths.{sorted_once}
use Rattle.rx_base.proofs.Orders.{IsStrictlySortedBy-sorted_once, is_sorted_once}
use Rattle.rx_messages.specs.Directories.{directory_is_readable, entry_names, is_canonical, lists_hold}
use Rattle.rx_messages.specs.Names.{are_distinct, are_sorted, entries_hold, entry_holds, is_name}
use Rattle.rx_messages.specs.Nodes.{directory_node_is_readable, file_node_is_readable}
use Rattle.rx_messages.specs.declared.nodes.FileNode.{FileNode}
use Rattle.rx_messages.specs.declared.nodes.DirectoryNode.{DirectoryNode}
use Rattle.rx_messages.specs.declared.nodes.SymlinkNode.{SymlinkNode}
use Rattle.rx_base.proofs.ByteLists.{bytes_eq-other, some_bytes}
use Rattle.rx_base.proofs.Members.{Contains-cons_cases, Contains-head, Contains-later}
use Rattle.rx_tree.specs.Entries.{Content}
use Rattle.rx_tree.specs.Planting.{directory_of}
use Rattle.rx_tree.specs.Trees.{Tree, End, File, Dir, Rest, bytes_below, directory_nodes, file_here, file_nodes, forest, names_in, planted, tree_at, tree_bytes, within}
use Rattle.rx_tree.proofs.TreeHolds.{HoldsEach}
use Rattle.rx_tree.proofs.TreeRuns.{firsts}

-- ---- names

any_none : (c : ℕ) (text : List ℕ) → Lacks c text → list_any (λ b. b == c) text ≡ false
any_none c [] h = refl
any_none c (x ∷ xs) h = rw (ne_eqb x c h.0, any_none c xs h.1) refl

name_passes : (name : List ℕ) → IsName name → is_name name ≡ true
unfolding is_name
name_passes name one =
    rw (some_bytes name one.some, bytes_eq-other name (codes ".") one.not_here, bytes_eq-other name (codes "..") one.not_up, any_none 47 name one.no_slash, any_none 0 name one.no_zero) refl

sorted_passes : (names : List (List ℕ)) → IsStrictlySortedBy (slice_cmp nat_cmp) names → are_sorted names ≡ true
unfolding are_sorted IsStrictlySortedBy
sorted_passes [] s = refl
sorted_passes (n ∷ []) s = refl
sorted_passes (n ∷ m ∷ ms) s = rw (s.0.0, sorted_passes (m ∷ ms) s.1) refl

entry_passes : {A : Type 0} (name : A → List ℕ) (is_whole : A → Bool) (x : A) → IsName (name x) × (is_whole x ≡ true) → entry_holds name is_whole x ≡ true
entry_passes name is_whole x h = rw (name_passes (name x) h.0, h.1) refl

each_passes : {A : Type 0} (name : A → List ℕ) (is_whole : A → Bool) (xs : List A) → AllByRecursion (λ x. IsName (name x) × (is_whole x ≡ true)) xs → list_all (λ x. entry_holds name is_whole x) xs ≡ true
each_passes name is_whole [] h = refl
each_passes name is_whole (x ∷ xs) h = rw (entry_passes name is_whole x h.0, each_passes name is_whole xs h.1) refl

list_passes : {A : Type 0} (name : A → List ℕ) (is_whole : A → Bool) (xs : List A) → IsStrictlySortedBy (slice_cmp nat_cmp) (map name xs) → AllByRecursion (λ x. IsName (name x) × (is_whole x ≡ true)) xs
    → entries_hold name is_whole xs ≡ true
unfolding entries_hold
list_passes name is_whole xs s h = rw (sorted_passes (map name xs) s, each_passes name is_whole xs h) refl

-- ---- the names of a tree in order

abbrev pub tree_names : Tree → List (List ℕ)
tree_names End = []
tree_names (File n c t) = n ∷ tree_names t
tree_names (Dir n s t) = n ∷ tree_names t

abbrev pub IsLower : List ℕ → List ℕ → Type 0
IsLower n m = slice_cmp nat_cmp n m ≡ Less

-- in each directory the names ascend
abbrev pub IsInNameOrder : Tree → Type 0
IsInNameOrder End = Unit {0}
IsInNameOrder (File n c t) = AllByRecursion (IsLower n) (tree_names t) × IsInNameOrder t
IsInNameOrder (Dir n s t) = AllByRecursion (IsLower n) (tree_names t) × IsInNameOrder s × IsInNameOrder t

names_sorted : (t : Tree) → IsInNameOrder t → IsStrictlySortedBy (slice_cmp nat_cmp) (tree_names t)
unfolding IsStrictlySortedBy
names_sorted End h = tt
names_sorted (File n c t) h = (h.0, names_sorted t h.1)
names_sorted (Dir n s t) h = (h.0, names_sorted t h.2)

abbrev files_named : Tree → List (List ℕ)
files_named t = map (λ (node : FileNode). node.name) (file_nodes t)

abbrev dirs_named : Tree → List (List ℕ)
dirs_named t = map (λ (node : DirectoryNode). node.name) (directory_nodes t)

All-files : (P : List ℕ → Type 0) (t : Tree) → AllByRecursion P (tree_names t) → AllByRecursion P (files_named t)
All-files P End h = tt
All-files P (File n c t) h = (h.0, All-files P t h.1)
All-files P (Dir n s t) h = All-files P t h.1

All-dirs : (P : List ℕ → Type 0) (t : Tree) → AllByRecursion P (tree_names t) → AllByRecursion P (dirs_named t)
All-dirs P End h = tt
All-dirs P (File n c t) h = All-dirs P t h.1
All-dirs P (Dir n s t) h = (h.0, All-dirs P t h.1)

files_sorted : (t : Tree) → IsInNameOrder t → IsStrictlySortedBy (slice_cmp nat_cmp) (files_named t)
unfolding IsStrictlySortedBy
files_sorted End h = tt
files_sorted (File n c t) h = (All-files (IsLower n) t h.0, files_sorted t h.1)
files_sorted (Dir n s t) h = files_sorted t h.2

dirs_sorted : (t : Tree) → IsInNameOrder t → IsStrictlySortedBy (slice_cmp nat_cmp) (dirs_named t)
unfolding IsStrictlySortedBy
dirs_sorted End h = tt
dirs_sorted (File n c t) h = dirs_sorted t h.1
dirs_sorted (Dir n s t) h = (All-dirs (IsLower n) t h.0, dirs_sorted t h.2)

-- ---- no name twice

file_name-to : (t : Tree) (q : List ℕ) → Contains (files_named t) q → Contains (tree_names t) q
file_name-to End q c = c
file_name-to (File n d t) q c =
    elim (Contains-cons_cases n (files_named t) q c) [
      | inl is ↦ subst (λ (m : List ℕ). Contains (n ∷ tree_names t) m) is (Contains-head n (tree_names t))
      | inr later ↦ Contains-later n (tree_names t) q (file_name-to t q later)
    ]
file_name-to (Dir n s t) q c = Contains-later n (tree_names t) q (file_name-to t q c)

dir_name-to : (t : Tree) (q : List ℕ) → Contains (dirs_named t) q → Contains (tree_names t) q
dir_name-to End q c = c
dir_name-to (File n d t) q c = Contains-later n (tree_names t) q (dir_name-to t q c)
dir_name-to (Dir n s t) q c =
    elim (Contains-cons_cases n (dirs_named t) q c) [
      | inl is ↦ subst (λ (m : List ℕ). Contains (n ∷ tree_names t) m) is (Contains-head n (tree_names t))
      | inr later ↦ Contains-later n (tree_names t) q (dir_name-to t q later)
    ]

name-from : (t : Tree) (q : List ℕ) → Contains (tree_names t) q → Contains (files_named t) q ⊎ Contains (dirs_named t) q
name-from End q c = inl c
name-from (File n d t) q c =
    elim (Contains-cons_cases n (tree_names t) q c) [
      | inl is ↦ inl (subst (λ (m : List ℕ). Contains (n ∷ files_named t) m) is (Contains-head n (files_named t)))
      | inr later ↦ elim (name-from t q later) [ inl f ↦ inl (Contains-later n (files_named t) q f) | inr d ↦ inr d ]
    ]
name-from (Dir n s t) q c =
    elim (Contains-cons_cases n (tree_names t) q c) [
      | inl is ↦ inr (subst (λ (m : List ℕ). Contains (n ∷ dirs_named t) m) is (Contains-head n (dirs_named t)))
      | inr later ↦ elim (name-from t q later) [ inl f ↦ inl f | inr d ↦ inr (Contains-later n (dirs_named t) q d) ]
    ]

as_many : (t : Tree) → length (files_named t) + length (dirs_named t) ≡ length (tree_names t)
as_many End = refl
as_many (File n c t) = let rest = as_many t in omega arith
as_many (Dir n s t) = let rest = as_many t in omega arith

distinct_passes : (t : Tree) → IsInNameOrder t → are_distinct (entry_names (directory_of t)) ≡ true
unfolding are_distinct
distinct_passes t h =
    let names = files_named t ++ dirs_named t in
    let same = is_sorted_once nat_list_cmp_total (slice_cmp-IsAntisymmetric nat_cmp-IsAntisymmetric) names (tree_names t) (names_sorted t h)
    (λ q. (
      λ c. elim (Contains-append_cases (files_named t) (dirs_named t) q c) [ inl f ↦ file_name-to t q f | inr d ↦ dir_name-to t q d ],
      λ c. elim (name-from t q c) [ inl f ↦ Contains-append_left (files_named t) (dirs_named t) q f | inr d ↦ Contains-append_right (files_named t) (dirs_named t) q d ],
    )) in
    let size = ap (λ (ns : List (List ℕ)). length ns) same in
    let both = length-append (files_named t) (dirs_named t) in
    let many = as_many t in
    rw (append-nil (files_named t ++ dirs_named t)) (eq-eqb (length (sorted_once (slice_cmp nat_cmp) names)) (length names) (omega arith))

-- ---- a tree's Directory

-- a size of 63 bits
abbrev pub IsSmall : Content → Type 0
IsSmall content = content.digest.size < 2 ^ 63

files_pass : (t : Tree) → HoldsEach IsName IsSmall t → AllByRecursion (λ (x : FileNode). IsName x.name × (is_some x.digest ≡ true)) (file_nodes t)
files_pass End g = tt
files_pass (File n c t) g = ((g.0, refl), files_pass t g.2)
files_pass (Dir n s t) g = files_pass t g.2

dirs_pass : (t : Tree) → HoldsEach IsName IsSmall t → AllByRecursion (λ (x : DirectoryNode). IsName x.name × (is_some x.digest ≡ true)) (directory_nodes t)
dirs_pass End g = tt
dirs_pass (File n c t) g = dirs_pass t g.2
dirs_pass (Dir n s t) g = ((g.0, refl), dirs_pass t g.2)

no_links : entries_hold (λ (node : SymlinkNode). node.name) (λ (node : SymlinkNode). true) [] ≡ true
unfolding entries_hold are_sorted
no_links = refl

canonical : (t : Tree) → HoldsEach IsName IsSmall t → IsInNameOrder t → is_canonical (directory_of t) ≡ true
unfolding is_canonical lists_hold
canonical t g h =
    rw (
      list_passes (λ (node : FileNode). node.name) (λ (node : FileNode). is_some node.digest) (file_nodes t) (files_sorted t h) (files_pass t g),
      list_passes (λ (node : DirectoryNode). node.name) (λ (node : DirectoryNode). is_some node.digest) (directory_nodes t) (dirs_sorted t h) (dirs_pass t g),
      no_links,
      distinct_passes t h,
    ) refl

files_small : (t : Tree) → HoldsEach IsName IsSmall t → AllByRecursion file_node_is_readable (file_nodes t)
files_small End g = tt
files_small (File n c t) g = (g.1, files_small t g.2)
files_small (Dir n s t) g = files_small t g.2

-- each Directory below is smaller than 2^63 bytes
abbrev pub IsSmallBelow : Tree → Type 0
IsSmallBelow t = (bytes : List ℕ) → Contains (bytes_below t) bytes → length bytes < 2 ^ 63

dirs_small : (t : Tree) → IsSmallBelow t → AllByRecursion directory_node_is_readable (directory_nodes t)
dirs_small End small = tt
dirs_small (File n c t) small = dirs_small t small
dirs_small (Dir n s t) small = (
  small (tree_bytes s) (Contains-append_right (bytes_below s) (tree_bytes s ∷ bytes_below t) (tree_bytes s) (Contains-head (tree_bytes s) (bytes_below t))),
  dirs_small t (λ bytes c. small bytes (Contains-append_right (bytes_below s) (tree_bytes s ∷ bytes_below t) bytes (Contains-later (tree_bytes s) (bytes_below t) bytes c))),
)

pub readable : (t : Tree) → HoldsEach IsName IsSmall t → IsInNameOrder t → IsSmallBelow t → directory_is_readable (directory_of t)
readable t g h small = (canonical t g h, files_small t g, dirs_small t small)

-- ---- the tree of a list is in order

names_of_forest : (file : List ℕ → Option Content) (sub : List ℕ → Tree) (names : List (List ℕ)) → tree_names (forest file sub names) ≡ names
names_of_forest file sub [] = refl
names_of_forest file sub (n ∷ ns) =
    elim (file n) as (λ o. tree_names (planted n o (sub n) (forest file sub ns)) ≡ n ∷ ns) [
      | Some c ↦ ap (λ (ms : List (List ℕ)). n ∷ ms) (names_of_forest file sub ns)
      | None ↦ ap (λ (ms : List (List ℕ)). n ∷ ms) (names_of_forest file sub ns)
    ]

forest_in_order : (file : List ℕ → Option Content) (sub : List ℕ → Tree) (names : List (List ℕ)) → ((n : List ℕ) → IsInNameOrder (sub n)) → IsStrictlySortedBy (slice_cmp nat_cmp) names → IsInNameOrder (forest file sub names)
unfolding IsStrictlySortedBy
forest_in_order file sub [] h s = tt
forest_in_order file sub (n ∷ ns) h s =
    let lower : AllByRecursion (IsLower n) (tree_names (forest file sub ns)) = subst (λ (ms : List (List ℕ)). AllByRecursion (IsLower n) ms) (sym (names_of_forest file sub ns)) s.0 in
    elim (file n) as (λ o. IsInNameOrder (planted n o (sub n) (forest file sub ns))) [ Some c ↦ (lower, forest_in_order file sub ns h s.1) | None ↦ (lower, h n, forest_in_order file sub ns h s.1) ]

pub in_order : (most : ℕ) (rs : List Rest) → IsInNameOrder (tree_at most rs)
in_order zero rs = tt
in_order (suc most) rs =
    forest_in_order (λ n. file_here (within n rs)) (λ n. tree_at most (within n rs)) (names_in rs) (λ n. in_order most (within n rs))
    (IsStrictlySortedBy-sorted_once nat_list_cmp_total (slice_cmp-IsAntisymmetric nat_cmp-IsAntisymmetric) (firsts rs))
