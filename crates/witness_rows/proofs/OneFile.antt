-- What a tool with one input and one output runs on in a source tree that has that input alone: that file.
use Rattle.std.proofs.Common.{◌≡◌, ℕ, true, false, List, [], ◌∷◌, ◌<◌, ◌≤◌, inl, inr, ◌⊎◌, length, map, refl, ap, sym, subst, ◌∙◌, arith}
use Rattle.std.specs.Prelude.{All, Contains, None, Option, Some, pos}
use Rattle.std.specs.Cmp.Lexicographic.{nat_list_cmp_total}
use Rattle.std.specs.FinMap.{nat_cmp-IsAntisymmetric, slice_cmp-IsAntisymmetric}
use Rattle.std.specs.Fmt.{digits}
use Rattle.std.specs.Str.{bytes_eq}
use Rattle.std.proofs.lemmas.List.Elements.{All-cons, All-contains}
use Rattle.std.proofs.lemmas.Slice.Eq.{bytes_eq-Decides}
use Rattle.rx_base.specs.Paths.{is_below}
use Rattle.rx_base.specs.SortedPaths.{AreSorted}
use Rattle.rx_base.proofs.Members.{Contains-head, Contains-one}
use Rattle.rx_base.proofs.Orders.{is_sorted_once}
use Rattle.rx_fakes.specs.Entries.{stamp_of}
use Rattle.rx_local.specs.Limits.{IsWithinLimits, most_file_bytes}
use Rattle.rx_local.specs.Local.{first_missing}
use Rattle.rx_reach.specs.Scenes.{Scene, scene_of}
use Rattle.rx_scan.specs.declared.gathering.Gathered.{Gathered}
use Rattle.rx_scan.specs.Gathering.{IsGathered, IsInput, IsKept, IsOrderly, IsScanned, PassesList, PassesScan, command_asked}
use Rattle.rx_scan.specs.Inputs.{first_missing as missing_input}
use Rattle.rx_scan.specs.Ways.{blocked}
use Rattle.rx_world.specs.declared.commands.Command.{Command}
use Rattle.rx_world.specs.declared.input_files.InputFile.{InputFile}
use Rattle.rx_world.specs.declared.looks.Look.TheVariants.{Absent}
use Rattle.rx_world.specs.declared.looks.Stamp.{Stamp}
use Rattle.rx_world.specs.declared.outcomes.Exit.{Exit}
use Rattle.rx_world.specs.declared.outcomes.FileOut.{FileOut}
use Rattle.rx_world.specs.declared.outcomes.Outcome.{Outcome}
use Rattle.rx_world.specs.declared.refusals.Limit.{Limit}
use Rattle.rx_world.specs.declared.refusals.LocalCause.{LocalCause}
use Rattle.rx_world.specs.declared.trees.Tree.{Tree}
use Rattle.rx_world.specs.Files.{cut_files}
use Rattle.rx_world.specs.Inputs.{listed_copy}
use Rattle.rx_world.specs.Outcomes.{IsClean}
use Rattle.rx_world.specs.Sources.{entry_at, is_file}
use Rattle.rx_world.specs.Toy.{first_error, toy_outcome, toy_success, toy_tool}
use Rattle.rx_world.specs.Trees.{empty_tree, files-tree_with_directories, tree_of, tree_with_files}
use Rattle.witness_rows.specs.Single.{single_outcome, single_text, single_tree}
use Rattle.witness_rows.proofs.Both.{here, kept-by-none, outcome-of}

abbrev pub input_path : List ℕ
input_path = 97 ∷ []

abbrev pub output_paths : List (List ℕ)
output_paths = (98 ∷ []) ∷ []

abbrev scene : Scene
scene = scene_of single_tree

-- ---- where the file is

by-bytes : (P : List ℕ → Type 0) (path : List ℕ) → (path ≡ input_path → P path) → (bytes_eq input_path path ≡ false → P path) → P path
by-bytes P path same other =
    elim (bytes_eq input_path path) as (λ b. bytes_eq input_path path ≡ b → P path)
    [ true ↦ λ e. same (sym ((bytes_eq-Decides input_path path).0 e)) | false ↦ λ e. other e ] refl

-- at each other path there is nothing
elsewhere : (path : List ℕ) → bytes_eq input_path path ≡ false → (entry_at path single_tree).look ≡ Absent
elsewhere path e = rw e refl

pub only-input : (path : List ℕ) → is_file (scene.look path) ≡ true → path ≡ input_path
only-input path = by-bytes (λ p. is_file (scene.look p) ≡ true → p ≡ input_path) path
    (λ same file. same)
    (λ other file. absurd (let none : is_file Absent ≡ true = subst (λ look. is_file look ≡ true) (elsewhere path other) file in cc))

both-at : (upper lower : List ℕ) → upper ≡ input_path → lower ≡ input_path → is_below upper lower ≡ true → is_below input_path input_path ≡ true
both-at upper lower a b h = subst (λ (p : List ℕ). is_below input_path p ≡ true) b (subst (λ (p : List ℕ). is_below p lower ≡ true) a h)

pub apart-from : (path below : List ℕ) → is_file (scene.look path) ≡ true → is_below below path ≡ true → (entry_at below single_tree).look ≡ Absent
apart-from path below file under = by-bytes (λ p. is_below p path ≡ true → (entry_at p single_tree).look ≡ Absent) below
    (λ same h. absurd (let own : is_below input_path input_path ≡ true = both-at below path same (only-input path file) h in cc))
    (λ other h. elsewhere below other) under

-- ---- it is gathered

pub is-there : missing_input scene (input_path ∷ []) ≡ None
is-there = refl

one-of : (paths : List (List ℕ)) → AreSorted paths → ((path : List ℕ) → Contains paths path → path ≡ input_path) → Contains paths input_path → paths ≡ input_path ∷ []
one-of paths sorted only has =
    is_sorted_once nat_list_cmp_total (slice_cmp-IsAntisymmetric nat_cmp-IsAntisymmetric) (input_path ∷ []) paths sorted
    (λ path. ((λ c. subst (λ p. Contains paths p) (Contains-one input_path path c) has), (λ c. rw (only path c) (Contains-head input_path []))))

-- a list of no paths but this one has one at most
short-of : (paths : List (List ℕ)) → AreSorted paths → ((path : List ℕ) → Contains paths path → path ≡ input_path) → (paths ≡ []) ⊎ (paths ≡ input_path ∷ [])
short-of [] sorted only = inl refl
short-of (path ∷ paths) sorted only =
    inr (one-of (path ∷ paths) sorted only (subst (λ p. Contains (path ∷ paths) p) (only path (Contains-head path paths)) (Contains-head path paths)))

-- the one item of a list of which a map gives one
one-mapped : {A B : Type 0} (f : A → B) (y : B) (xs : List A) → map f xs ≡ y ∷ [] → (x : A) × (xs ≡ x ∷ []) × (f x ≡ y)
one-mapped f y [] h = absurd (cc)
one-mapped f y (x ∷ []) h = (x, refl, cc)
one-mapped f y (x ∷ z ∷ xs) h = absurd (cc)

only-scanned : (command : Command) (path : List ℕ) → IsScanned scene (here command (input_path ∷ [])) path → path ≡ input_path
only-scanned command path (inl declared) = only-input path declared.0
only-scanned command path (inr reached) = cc

is-scanned : (command : Command) → IsScanned scene (here command (input_path ∷ [])) input_path
is-scanned command = inl (refl, inl (input_path, Contains-head input_path [], inl refl))

only-inputs : (command : Command) (cause : Option LocalCause) → IsKept scene (here command (input_path ∷ [])) cause → (path : List ℕ) → IsInput scene (here command (input_path ∷ [])) cause path → path ≡ input_path
only-inputs command None k path i = only-scanned command path i
only-inputs command (Some cause) k path i = absurd (kept-by-none command (input_path ∷ []) scene cause k)

is-input : (command : Command) (cause : Option LocalCause) → IsKept scene (here command (input_path ∷ [])) cause → IsInput scene (here command (input_path ∷ [])) cause input_path
is-input command None k = is-scanned command
is-input command (Some cause) k = absurd (kept-by-none command (input_path ∷ []) scene cause k)

few : (command : Command) (paths : List (List ℕ)) → AreSorted paths → 20000 < length paths → All (IsScanned scene (here command (input_path ∷ []))) paths → ⊥
few command paths sorted many all =
    elim (short-of paths sorted (λ path c. only-scanned command path (All-contains (IsScanned scene (here command (input_path ∷ []))) paths path all c))) [
      | inl none ↦ let least : 20000 < length {A = List ℕ} [] = subst (λ (ps : List (List ℕ)). 20000 < length ps) none many in omega arith
      | inr one ↦ let least : 20000 < length (input_path ∷ []) = subst (λ (ps : List (List ℕ)). 20000 < length ps) one many in omega arith
    ]

pub within-scan : (command : Command) (limit : Limit) (n : ℕ) (path : Option (List ℕ)) → PassesScan scene (here command (input_path ∷ [])) limit n path → ⊥
within-scan command limit n path (inl many) = few command many.1.0 many.1.1 many.1.2 many.1.3
within-scan command limit n path (inr all) =
    let paths = one-of _ all.1.sorted (λ p h. only-scanned command p ((all.1.only p).0 h)) ((all.1.only input_path).1 (is-scanned command)) in
    let one = one-mapped _ input_path all.0 paths in
    let looks = rw one.1 at all.1.looks in
    let seen = looks 0 one.0 (omega arith) in
    let here = rw one.2 at seen in
    let stamp : stamp_of single_text 0 ≡ one.0.stamp = cc in
    let size : one.0.stamp.size ≡ 3 = sym (ap (λ (s : Stamp). s.size) stamp) in
    let passed = rw one.1 at all.2 in
    let small = rw size at passed in
    cc

pub within-list : (command : Command) (limit : Limit) (n : ℕ) (path : Option (List ℕ)) → PassesList scene (here command (input_path ∷ [])) limit n path → ⊥
within-list command limit n path passes = kept-by-none command (input_path ∷ []) scene passes.0.0 passes.0.1

pub unblocked : (command : Command) → command.working_directory ≡ [] → command.outputs ≡ output_paths → (cause : Option LocalCause) (files : List (List ℕ)) → IsKept scene (here command (input_path ∷ [])) cause
    → AreSorted files → ((file : List ℕ) → Contains files file → IsInput scene (here command (input_path ∷ [])) cause file) → blocked (command_asked (here command (input_path ∷ []))) files ≡ None
unblocked command root outputs cause files k sorted each =
    elim (short-of files sorted (λ file c. only-inputs command cause k file (each file c))) [
      | inl none ↦ rw (none, outputs) refl
      | inr one ↦ rw (one, root, outputs) refl
    ]

-- ---- and what is gathered

pub one-file : (command : Command) (gathered : Gathered) → IsGathered scene (here command (input_path ∷ [])) gathered → IsOrderly (here command (input_path ∷ [])) gathered
    → (file : InputFile) × (gathered.files ≡ file ∷ []) × (file.path ≡ input_path)
one-file command gathered g o =
    one-mapped (λ (file : InputFile). file.path) input_path gathered.files
    (one-of (map (λ (file : InputFile). file.path) gathered.files) o.sorted (λ path h. only-inputs command g.cause g.kept path ((g.files path).0 h))
    ((g.files input_path).1 (is-input command g.cause g.kept)))

pub its-outputs : (command : Command) (gathered : Gathered) → command.outputs ≡ output_paths → IsOrderly (here command (input_path ∷ [])) gathered → gathered.command.outputs ≡ output_paths
its-outputs command gathered outputs o = rw (o.command_is, outputs) refl

-- the file of the tree
abbrev pub copied : InputFile → FileOut
copied file = record { path = input_path; bytes = single_text; executable = file.executable }

its-copy : (file : InputFile) → file.path ≡ input_path → listed_copy single_tree file ≡ copied file
its-copy file at = ap (λ (path : List ℕ). record { path = path; bytes = (entry_at path single_tree).bytes; executable = file.executable }) at

pub its-tree : (gathered : Gathered) (file : InputFile) → gathered.files ≡ file ∷ [] → file.path ≡ input_path
    → (tree_of (map (listed_copy single_tree) gathered.files) gathered.dirs).files ≡ copied file ∷ []
its-tree gathered file one at =
    files-tree_with_directories gathered.dirs (tree_with_files (map (listed_copy single_tree) gathered.files) empty_tree)
    ∙ ap (λ (files : List InputFile). (tree_with_files (map (listed_copy single_tree) files) empty_tree).files) one
    ∙ ap (λ (copy : FileOut). (tree_with_files (copy ∷ []) empty_tree).files) (its-copy file at)

-- ---- the Toy tool's run

-- at code 0 the tool makes the output
makes : (error : Option (List ℕ)) (files : List FileOut) → (toy_outcome error output_paths files).exit.code ≡ pos 0
    → first_missing output_paths (toy_outcome error output_paths files).files ≡ None
makes None files zero_is = refl
makes (Some path) files zero_is = absurd (cc)

pub its-outcome : (command : Command) (tree : Tree) (file : InputFile) → command.outputs ≡ output_paths → tree.files ≡ copied file ∷ []
    → toy_tool command tree ≡ toy_success output_paths (copied file ∷ [])
its-outcome command tree file outputs files = rw (outputs, files) refl

-- the clean run is that
pub its-clean : (command : Command) (tree : Tree) (file : InputFile) (outcome : Outcome) → command.outputs ≡ output_paths → tree.files ≡ copied file ∷ []
    → IsClean toy_tool command tree outcome → outcome ≡ toy_success output_paths (copied file ∷ [])
its-clean command tree file outcome outputs files c =
    let ran = its-outcome command tree file outputs files in
    let exit_is : outcome.exit ≡ record { code = pos 0; stdout = []; stderr = [] } = c.exit_is ∙ ap (λ (o : Outcome). o.exit) ran in
    let zero_is : outcome.exit.code ≡ pos 0 = ap (λ (e : Exit). e.code) exit_is in
    let cut : cut_files command.outputs (toy_tool command tree).files ≡ (toy_success output_paths (copied file ∷ [])).files = rw (ran, outputs) refl in
    outcome-of outcome (record { code = pos 0; stdout = []; stderr = [] }) (toy_success output_paths (copied file ∷ [])).files exit_is (c.files_are zero_is ∙ cut)

pub is-made : (file : InputFile) → toy_success output_paths (copied file ∷ []) ≡ single_outcome
unfolding digits
is-made file = refl

pub its-size : (file : InputFile) → IsWithinLimits (toy_success output_paths (copied file ∷ []))
its-size file = rw (is-made file) (record {
  each_file = All-cons (λ (f : FileOut). length f.bytes ≤ most_file_bytes) _ [] (omega arith) (λ k d below. absurd (omega arith));
  all_files = omega arith;
  stdout = omega arith;
  stderr = omega arith;
})

pub makes-output : (command : Command) (tree : Tree) → command.outputs ≡ output_paths → (toy_tool command tree).exit.code ≡ pos 0
    → first_missing command.outputs (toy_tool command tree).files ≡ None
makes-output command tree outputs zero_is =
    rw outputs (makes (first_error tree.files) tree.files (rw outputs at zero_is))
