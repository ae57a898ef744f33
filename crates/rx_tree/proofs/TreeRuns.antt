-- The tree of a list of paths, run by run: the entries of one name, and the others after it.
use Rattle.std.proofs.Common.{◌≡◌, ◌≢◌, ◌∙◌, ℕ, List, [], ◌∷◌, ◌++◌, Option, append-nil, refl, sym, ap}
use Rattle.std.specs.declared.cmp.Ordering.TheVariants.{Less}
use Rattle.std.specs.Ordering.{nat_cmp}
use Rattle.std.specs.FinMap.{nat_cmp-IsAntisymmetric, slice_cmp-IsAntisymmetric}
use Rattle.std.specs.Cmp.Lexicographic.{slice_cmp}
use Rattle.std.specs.List.{AllByRecursion, Contains, flat_map}
use Rattle.std.proofs.lemmas.Cmp.{nat_list_cmp_total, tied_itself}
use Rattle.std.proofs.lemmas.Grind.{flat_map-append}
use Rattle.rx_base.proofs.Orders.{HasSameMembers-sorted_once}
use Rattle.rx_base.proofs.ByteLists.{bytes_eq-other}
use Rattle.rx_base.proofs.Lists.{All-weaken}
use Rattle.rx_base.proofs.Members.{All-members, Contains-head}
use Rattle.rx_tree.specs.Entries.{Content}
use Rattle.rx_tree.specs.Trees.{Tree, Rest, after, file_here, first_name, forest, names_in, planted, tree_of, within}
use Rattle.rx_tree.proofs.Members.{All-both_members, sorted_first}
use Rattle.rx_tree.proofs.TreeLemmas.{tree_of-names}

-- ---- names

-- the entry's first name
abbrev pub BeginsWith : List ℕ → Rest → Type 0
BeginsWith name rest = first_name rest.names ≡ name ∷ []

-- the entry has a first name, and it comes later
pub record BeginsLater (name : List ℕ) (rest : Rest) : Type 0 where
  pub first : List ℕ
  pub begins : BeginsWith first rest
  pub later : slice_cmp nat_cmp name first ≡ Less

pub later_differs : (name other : List ℕ) → slice_cmp nat_cmp name other ≡ Less → name ≢ other
later_differs name other less e = cc (sym less ∙ ap (λ (n : List ℕ). slice_cmp nat_cmp name n) (sym e) ∙ tied_itself nat_list_cmp_total name)

-- ---- what lies within a name

after-other : (name : List ℕ) (file : Option Content) (names : List (List ℕ)) (first : List ℕ) → first_name names ≡ first ∷ [] → first ≢ name → after name file names ≡ []
after-other name file [] first e ne = refl
after-other name file (n ∷ ns) first e ne = let same : n ≡ first = cc in rw (same, bytes_eq-other first name ne) refl

pub within-on : (name : List ℕ) (xs ys : List Rest) → within name (xs ++ ys) ≡ within name xs ++ within name ys
within-on name xs ys = flat_map-append (λ (rest : Rest). after name rest.file rest.names) xs ys

pub within-others : (name : List ℕ) (rs : List Rest) → AllByRecursion (λ rest. (first : List ℕ) × (BeginsWith first rest) × (first ≢ name)) rs → within name rs ≡ []
within-others name [] h = refl
within-others name (r ∷ rs) h = rw (after-other name r.file r.names h.0.0 h.0.1 h.0.2) (within-others name rs h.1)

-- ---- the forest of some names

pub forest-agree : (file file2 : List ℕ → Option Content) (sub sub2 : List ℕ → Tree) (names : List (List ℕ)) → AllByRecursion (λ name. (file name ≡ file2 name) × (sub name ≡ sub2 name)) names
    → forest file sub names ≡ forest file2 sub2 names
forest-agree file file2 sub sub2 [] h = refl
forest-agree file file2 sub sub2 (name ∷ names) h =
    ap (λ (f : Option Content). planted name f (sub name) (forest file sub names)) h.0.0
    ∙ ap (λ (t : Tree). planted name (file2 name) t (forest file sub names)) h.0.1
    ∙ ap (λ (t : Tree). planted name (file2 name) (sub2 name) t) (forest-agree file file2 sub sub2 names h.1)

-- ---- one run, and the others

abbrev pub firsts : List Rest → List (List ℕ)
firsts rests = flat_map (λ (rest : Rest). first_name rest.names) rests

firsts-run : (name : List ℕ) (run : List Rest) → AllByRecursion (BeginsWith name) run → AllByRecursion (λ y. y ≡ name) (firsts run)
firsts-run name [] h = tt
firsts-run name (r ∷ rs) h = rw h.0 (refl, firsts-run name rs h.1)

firsts-later : (name : List ℕ) (others : List Rest) → AllByRecursion (BeginsLater name) others → AllByRecursion (λ y. slice_cmp nat_cmp name y ≡ Less) (firsts others)
firsts-later name [] h = tt
firsts-later name (r ∷ rs) h = rw h.0.begins (h.0.later, firsts-later name rs h.1)

names_in-run : (name : List ℕ) (r : Rest) (run others : List Rest) → AllByRecursion (BeginsWith name) (r ∷ run) → AllByRecursion (BeginsLater name) others → names_in ((r ∷ run) ++ others) ≡ name ∷ names_in others
names_in-run name r run others h k =
    let here : Contains (firsts (r ∷ run)) name = rw h.0 (Contains-head name (firsts run)) in
    rw (flat_map-append (λ (rest : Rest). first_name rest.names) (r ∷ run) others)
    (sorted_first nat_list_cmp_total (slice_cmp-IsAntisymmetric nat_cmp-IsAntisymmetric) name (firsts (r ∷ run)) (firsts others) here (firsts-run name (r ∷ run) h) (firsts-later name others k))

laters : (name : List ℕ) (others : List Rest) → AllByRecursion (BeginsLater name) others → AllByRecursion (λ rest. (first : List ℕ) × (BeginsWith first rest) × (first ≢ name)) others
laters name others k =
    All-weaken (BeginsLater name) (λ rest. (first : List ℕ) × (BeginsWith first rest) × (first ≢ name)) others (λ rest l. (l.first, l.begins, λ e. later_differs name l.first l.later (sym e))) k

befores : (name other : List ℕ) (run : List Rest) → slice_cmp nat_cmp name other ≡ Less → AllByRecursion (BeginsWith name) run → AllByRecursion (λ rest. (first : List ℕ) × (BeginsWith first rest) × (first ≢ other)) run
befores name other run less h = All-weaken (BeginsWith name) (λ rest. (first : List ℕ) × (BeginsWith first rest) × (first ≢ other)) run (λ rest b. (name, b, later_differs name other less)) h

-- what comes later lies not within the run's name, nor the run within later names
within-run : (name : List ℕ) (run others : List Rest) → AllByRecursion (BeginsLater name) others → within name (run ++ others) ≡ within name run
within-run name run others k =
    within-on name run others ∙ ap (λ (rs : List Rest). within name run ++ rs) (within-others name others (laters name others k)) ∙ append-nil (within name run)

pub tree_of-run : (name : List ℕ) (r : Rest) (run others : List Rest) → AllByRecursion (BeginsWith name) (r ∷ run) → AllByRecursion (BeginsLater name) others
    → tree_of ((r ∷ run) ++ others) ≡ planted name (file_here (within name (r ∷ run))) (tree_of (within name (r ∷ run))) (tree_of others)
tree_of-run name r run others h k =
    let all = (r ∷ run) ++ others in
    tree_of-names all
    ∙ ap (λ (names : List (List ℕ)). forest (λ n. file_here (within n all)) (λ n. tree_of (within n all)) names) (names_in-run name r run others h k)
    ∙ ap (λ (rs : List Rest). planted name (file_here rs) (tree_of rs) (forest (λ n. file_here (within n all)) (λ n. tree_of (within n all)) (names_in others))) (within-run name (r ∷ run) others k)
    ∙ ap (λ (t : Tree). planted name (file_here (within name (r ∷ run))) (tree_of (within name (r ∷ run))) t)
    (forest-agree (λ n. file_here (within n all)) (λ n. file_here (within n others)) (λ n. tree_of (within n all)) (λ n. tree_of (within n others)) (names_in others)
    (All-both_members (λ n. slice_cmp nat_cmp name n ≡ Less) (λ n. (file_here (within n all) ≡ file_here (within n others)) × (tree_of (within n all) ≡ tree_of (within n others))) (firsts others) (names_in others)
    (HasSameMembers-sorted_once nat_list_cmp_total (slice_cmp-IsAntisymmetric nat_cmp-IsAntisymmetric) (firsts others))
    (λ n less.
    let same : within n all ≡ within n others = within-on n (r ∷ run) others ∙ ap (λ (rs : List Rest). rs ++ within n others) (within-others n (r ∷ run) (befores name n (r ∷ run) less h)) in
    (ap file_here same, ap tree_of same))
    (firsts-later name others k))
    ∙ sym (tree_of-names others))

-- an entry that leads no further adds nothing
pub tree_of-here : (r : Rest) (rs : List Rest) → r.names ≡ [] → tree_of (r ∷ rs) ≡ tree_of rs
tree_of-here r rs e =
    let nothing : (name : List ℕ) → within name (r ∷ rs) ≡ within name rs = λ name. rw e refl in
    let names : names_in (r ∷ rs) ≡ names_in rs = rw e refl in
    tree_of-names (r ∷ rs)
    ∙ ap (λ (ns : List (List ℕ)). forest (λ n. file_here (within n (r ∷ rs))) (λ n. tree_of (within n (r ∷ rs))) ns) names
    ∙ forest-agree (λ n. file_here (within n (r ∷ rs))) (λ n. file_here (within n rs)) (λ n. tree_of (within n (r ∷ rs))) (λ n. tree_of (within n rs)) (names_in rs)
    (All-members (λ n. (file_here (within n (r ∷ rs)) ≡ file_here (within n rs)) × (tree_of (within n (r ∷ rs)) ≡ tree_of (within n rs))) (names_in rs) (λ n c. (ap file_here (nothing n), ap tree_of (nothing n))))
    ∙ sym (tree_of-names rs)
