-- Nodes by their paths, as the entries of a source tree.
use Rattle.std.proofs.Common.{◌≡◌, ℕ, ◌||◌, Bool, true, false, cond, List, [], ◌∷◌, Ordering, Less, Equal, Greater, Option, None, Some, ap, bytes_eq, is_some, map, nat_cmp, refl, sym, ◌∙◌}
use Rattle.std.proofs.lemmas.Map.Text.{is_eq-slice_cmp}
use Rattle.std.proofs.lemmas.Slice.Eq.{bytes_eq-Decides}
use Rattle.std.specs.BTreeMap.{insert_entry, is_at}
use Rattle.std.specs.Cmp.{both_ways}
use Rattle.std.specs.Cmp.Lexicographic.{slice_cmp}
use Rattle.std.specs.List.{AllByRecursion, list_any}
use Rattle.std.specs.List.Sorted.{IsStrictlySortedBy}
use Rattle.std.specs.Map.{lookup}
use Rattle.std.specs.Ordering.{is_eq, match_ordering}
use Rattle.rx_base.specs.SortedPaths.{AreSorted}
use Rattle.rx_fakes.specs.declared.entries.Node.{Node}
use Rattle.rx_fakes.specs.Entries.{AreEntries, AreGenuine, IsGenuine, entry_of, has_path, with_entry}
use Rattle.rx_world.specs.declared.looks.Look.TheVariants.{Absent}
use Rattle.rx_world.specs.declared.looks.Stamp.{Stamp}
use Rattle.rx_world.specs.declared.sources.SourceEntry.{SourceEntry}
use Rattle.rx_world.specs.Files.{first_placed_by, placed_by}
use Rattle.rx_world.specs.Sources.{entry_at}

abbrev Nodes : Type 0
Nodes = List (List ℕ × Node)

abbrev path_of : SourceEntry → List ℕ
path_of entry = entry.path

bytes_eq-swapped : (a b : List ℕ) → bytes_eq a b ≡ bytes_eq b a
bytes_eq-swapped a b =
    both_ways (bytes_eq a b) (bytes_eq b a) (λ e. (bytes_eq-Decides b a).1 (sym ((bytes_eq-Decides a b).0 e))) (λ e. (bytes_eq-Decides a b).1 (sym ((bytes_eq-Decides b a).0 e)))

is_path : (path key : List ℕ) → is_at (slice_cmp nat_cmp path) key ≡ bytes_eq key path
is_path path key = is_eq-slice_cmp path key ∙ bytes_eq-swapped path key

-- ---- what stands at a path

-- the entry of what was found at a path
abbrev pub entry_by : List ℕ → Option Node → SourceEntry
entry_by path None = record { path = path; look = Absent; bytes = [] }
entry_by path (Some node) = entry_of (path, node)

at_case : (b : Bool) (path key : List ℕ) (node : Node) (rest : SourceEntry) (found : Option Node) → (b ≡ true → key ≡ path) → rest ≡ entry_by path found
    → cond b (entry_of (key, node)) rest ≡ entry_by path (cond b (Some node) found)
at_case true path key node rest found same h = ap (λ (k : List ℕ). entry_of (k, node)) (same refl)
at_case false path key node rest found same h = h

entry_at-nodes : (path : List ℕ) (nodes : Nodes) → entry_at path (map entry_of nodes) ≡ entry_by path (lookup (is_at (slice_cmp nat_cmp path)) nodes)
entry_at-nodes path [] = refl
entry_at-nodes path (pair ∷ nodes) =
    at_case (bytes_eq pair.0 path) path pair.0 pair.1 (entry_at path (map entry_of nodes)) (lookup (is_at (slice_cmp nat_cmp path)) nodes) (bytes_eq-Decides pair.0 path).0 (entry_at-nodes path nodes)
    ∙ ap (λ b. entry_by path (cond b (Some pair.1) (lookup (is_at (slice_cmp nat_cmp path)) nodes))) (sym (is_path path pair.0))

-- ---- one more

has_case : (b : Bool) (node : Node) (rest : Bool) (found : Option Node) → rest ≡ is_some found → (b || rest) ≡ is_some (cond b (Some node) found)
has_case true node rest found h = refl
has_case false node rest found h = h

has_path-nodes : (path : List ℕ) (nodes : Nodes) → has_path path (map entry_of nodes) ≡ is_some (lookup (is_at (slice_cmp nat_cmp path)) nodes)
has_path-nodes path [] = refl
has_path-nodes path (pair ∷ nodes) =
    has_case (bytes_eq pair.0 path) pair.1 (has_path path (map entry_of nodes)) (lookup (is_at (slice_cmp nat_cmp path)) nodes) (has_path-nodes path nodes)
    ∙ ap (λ b. is_some (cond b (Some pair.1) (lookup (is_at (slice_cmp nat_cmp path)) nodes))) (sym (is_path path pair.0))

same_path : (path key : List ℕ) → slice_cmp nat_cmp path key ≡ Equal → key ≡ path
same_path path key e = sym ((bytes_eq-Decides path key).0 (sym (is_eq-slice_cmp path key) ∙ ap is_eq e))

insert_case : (o : Ordering) (path : List ℕ) (node : Node) (pair : List ℕ × Node) (nodes inserted : Nodes) (rest : List SourceEntry) → slice_cmp nat_cmp path pair.0 ≡ o → map entry_of inserted ≡ rest
    → map entry_of (match_ordering o ((path, node) ∷ pair ∷ nodes) ((pair.0, node) ∷ nodes) (pair ∷ inserted))
    ≡ match_ordering o (entry_of (path, node) ∷ entry_of pair ∷ map entry_of nodes) (entry_of (path, node) ∷ map entry_of nodes) (entry_of pair ∷ rest)
insert_case Less path node pair nodes inserted rest e h = refl
insert_case Equal path node pair nodes inserted rest e h = ap (λ (k : List ℕ). entry_of (k, node) ∷ map entry_of nodes) (same_path path pair.0 e)
insert_case Greater path node pair nodes inserted rest e h = ap (λ r. entry_of pair ∷ r) h

map-insert : (path : List ℕ) (node : Node) (nodes : Nodes) → map entry_of (insert_entry (slice_cmp nat_cmp) nodes path node) ≡ placed_by path_of (entry_of (path, node)) (map entry_of nodes)
map-insert path node [] = refl
map-insert path node (pair ∷ nodes) =
    insert_case (slice_cmp nat_cmp path pair.0) path node pair nodes (insert_entry (slice_cmp nat_cmp) nodes path node) (placed_by path_of (entry_of (path, node)) (map entry_of nodes)) refl (map-insert path node nodes)

-- a path that is there stays as it is
pub with_entry-held : (path : List ℕ) (node : Node) (nodes : Nodes) (held : Bool) → held ≡ is_some (lookup (is_at (slice_cmp nat_cmp path)) nodes) → held ≡ true → map entry_of nodes ≡ with_entry (entry_of (path, node)) (map entry_of nodes)
with_entry-held path node nodes held is true_held =
    sym (ap (λ b. cond b (map entry_of nodes) (placed_by path_of (entry_of (path, node)) (map entry_of nodes))) (has_path-nodes path nodes ∙ sym is ∙ true_held))

-- a new one is placed
pub with_entry-new : (path : List ℕ) (node : Node) (old new : Nodes) (held : Bool) → held ≡ is_some (lookup (is_at (slice_cmp nat_cmp path)) old) → held ≡ false → new ≡ insert_entry (slice_cmp nat_cmp) old path node
    → map entry_of new ≡ with_entry (entry_of (path, node)) (map entry_of old)
with_entry-new path node old new held is not_held inserted =
    ap (map entry_of) inserted ∙ map-insert path node old
    ∙ sym (ap (λ b. cond b (map entry_of old) (placed_by path_of (entry_of (path, node)) (map entry_of old))) (has_path-nodes path old ∙ sym is ∙ not_held))

genuine_case : (honest : Type 0) (holds : List ℕ → Stamp → List ℕ) (o : Ordering) (new held : SourceEntry) (entries rest : List SourceEntry) → IsGenuine honest holds new → AreGenuine honest holds (held ∷ entries) → AreGenuine honest holds rest
    → AreGenuine honest holds (match_ordering o (new ∷ held ∷ entries) (new ∷ entries) (held ∷ rest))
genuine_case honest holds Less new held entries rest is all more = (is, all)
genuine_case honest holds Equal new held entries rest is all more = (is, all.1)
genuine_case honest holds Greater new held entries rest is all more = (all.0, more)

genuine-placed : (honest : Type 0) (holds : List ℕ → Stamp → List ℕ) (new : SourceEntry) (entries : List SourceEntry) → IsGenuine honest holds new → AreGenuine honest holds entries → AreGenuine honest holds (placed_by path_of new entries)
genuine-placed honest holds new [] is all = (is, tt)
genuine-placed honest holds new (held ∷ entries) is all =
    genuine_case honest holds (slice_cmp nat_cmp new.path held.path) new held entries (placed_by path_of new entries) is all (genuine-placed honest holds new entries is all.1)

pub entries-more : (honest : Type 0) (holds : List ℕ → Stamp → List ℕ) (path : List ℕ) (node : Node) (old new : Nodes) → AreEntries honest holds old → IsGenuine honest holds (entry_of (path, node))
    → AreSorted (map (λ pair. pair.0) new) → new ≡ insert_entry (slice_cmp nat_cmp) old path node → AreEntries honest holds new
entries-more honest holds path node old new are is sorted inserted = record {
  sorted = sorted;
  genuine = rw (inserted, map-insert path node old) (genuine-placed honest holds (entry_of (path, node)) (map entry_of old) is are.genuine);
}

-- ---- the order

placed-first : (pair : List ℕ × Node) (nodes : Nodes) → AllByRecursion (λ other. slice_cmp nat_cmp pair.0 other ≡ Less) (map (λ p. p.0) nodes) → placed_by path_of (entry_of pair) (map entry_of nodes) ≡ entry_of pair ∷ map entry_of nodes
placed-first pair [] h = refl
placed-first pair (next ∷ nodes) h =
    ap (λ o. match_ordering o (entry_of pair ∷ entry_of next ∷ map entry_of nodes) (entry_of pair ∷ map entry_of nodes) (entry_of next ∷ placed_by path_of (entry_of pair) (map entry_of nodes))) h.0

-- sorted nodes are in the order that their entries have
pub first_placed_by-sorted : (nodes : Nodes) → AreSorted (map (λ pair. pair.0) nodes) → first_placed_by path_of (map entry_of nodes) ≡ map entry_of nodes
unfolding IsStrictlySortedBy
first_placed_by-sorted [] h = refl
first_placed_by-sorted (pair ∷ nodes) h = ap (placed_by path_of (entry_of pair)) (first_placed_by-sorted nodes h.1) ∙ placed-first pair nodes h.0

-- the entry of what a look-up gave
pub entry_at-found : (path : List ℕ) (nodes : Nodes) (found : Option Node) → found ≡ lookup (is_at (slice_cmp nat_cmp path)) nodes → entry_by path found ≡ entry_at path (map entry_of nodes)
entry_at-found path nodes found e = ap (entry_by path) e ∙ sym (entry_at-nodes path nodes)
