-- What a tool without inputs and outputs runs on in an empty source tree: nothing.
use Rattle.std.proofs.Common.{◌≡◌, ℕ, List, [], ◌∷◌, ◌<◌, inl, inr, length, map, refl, ap, ◌∙◌, arith, rules}
use Rattle.std.specs.Prelude.{All, Contains, None, Option, Some, pos}
use Rattle.std.proofs.lemmas.List.Elements.{All-head}
use Rattle.rx_local.specs.Limits.{IsWithinLimits}
use Rattle.rx_reach.specs.Scenes.{scene_of}
use Rattle.rx_scan.specs.declared.gathering.Gathered.{Gathered}
use Rattle.rx_scan.specs.Gathering.{IsGathered, IsInput, IsKept, IsOrderly, IsScanned, PassesList, PassesScan, command_asked}
use Rattle.rx_scan.specs.Ways.{blocked}
use Rattle.rx_world.specs.declared.commands.Command.{Command}
use Rattle.rx_world.specs.declared.input_files.InputFile.{InputFile}
use Rattle.rx_world.specs.declared.outcomes.Exit.{Exit}
use Rattle.rx_world.specs.declared.outcomes.Outcome.{Outcome}
use Rattle.rx_world.specs.declared.refusals.Limit.{Limit}
use Rattle.rx_world.specs.declared.refusals.LocalCause.{LocalCause}
use Rattle.rx_world.specs.declared.trees.Tree.{Tree}
use Rattle.rx_world.specs.Files.{cut_files}
use Rattle.rx_world.specs.Inputs.{listed_copy}
use Rattle.rx_world.specs.Outcomes.{IsClean}
use Rattle.rx_world.specs.Toy.{toy_tool}
use Rattle.witness_rows.specs.Trivial.{trivial_outcome}
use Rattle.witness_rows.proofs.Both.{here, kept-by-none, outcome-of}
use Rattle.rx_world.specs.Trees.{empty_tree, files-tree_with_directories, tree_of, tree_with_files}

-- ---- nothing is gathered

-- a list of which nothing is a member is empty
none-in : (paths : List (List ℕ)) → ((path : List ℕ) → Contains paths path → ⊥) → paths ≡ []
none-in [] h = refl
none-in (path ∷ paths) h = absurd (h path (search rules))

-- so is one that a map of is
none-mapped : {A B : Type 0} (f : A → B) (xs : List A) → map f xs ≡ [] → xs ≡ []
none-mapped f [] h = refl
none-mapped f (x ∷ xs) h = absurd (cc)

-- no path is scanned
unscanned : (command : Command) (path : List ℕ) → IsScanned (scene_of []) (here command []) path → ⊥
unscanned command path (inl declared) = cc
unscanned command path (inr reached) = cc

no-inputs : (command : Command) (cause : Option LocalCause) (paths : List (List ℕ)) → IsKept (scene_of []) (here command []) cause
    → ((path : List ℕ) → Contains paths path → IsInput (scene_of []) (here command []) cause path) → paths ≡ []
no-inputs command None paths k each = none-in paths (λ path h. unscanned command path (each path h))
no-inputs command (Some cause) paths k each = absurd (kept-by-none command [] (scene_of []) cause k)

-- ---- it can be gathered

-- no path meets what none does, so there aren't too many that do
few : (P : List ℕ → Type 0) → ((path : List ℕ) → P path → ⊥) → (paths : List (List ℕ)) → 20000 < length paths → All P paths → ⊥
few P h [] many all = omega arith
few P h (path ∷ paths) many all = h path (All-head P path paths all)

-- the files of a scan are none, so they pass no limit
pub within-scan : (command : Command) (limit : Limit) (n : ℕ) (path : Option (List ℕ)) → PassesScan (scene_of []) (here command []) limit n path → ⊥
within-scan command limit n path (inl many) = few (IsScanned (scene_of []) (here command [])) (unscanned command) many.1.0 many.1.2 many.1.3
within-scan command limit n path (inr all) =
    let none = none-mapped _ all.0 (none-in _ (λ path h. unscanned command path ((all.1.only path).0 h))) in
    let passed = rw none at all.2 in
    cc

pub within-list : (command : Command) (limit : Limit) (n : ℕ) (path : Option (List ℕ)) → PassesList (scene_of []) (here command []) limit n path → ⊥
within-list command limit n path passes = kept-by-none command [] (scene_of []) passes.0.0 passes.0.1

pub unblocked : (command : Command) → command.outputs ≡ [] → (cause : Option LocalCause) (files : List (List ℕ)) → IsKept (scene_of []) (here command []) cause
    → ((file : List ℕ) → Contains files file → IsInput (scene_of []) (here command []) cause file) → blocked (command_asked (here command [])) files ≡ None
unblocked command none cause files k each = rw (no-inputs command cause files k each, none) refl

-- ---- and what is gathered

pub no-files : (command : Command) (gathered : Gathered) → IsGathered (scene_of []) (here command []) gathered → gathered.files ≡ []
no-files command gathered g =
    none-mapped (λ (file : InputFile). file.path) gathered.files
    (no-inputs command g.cause (map (λ (file : InputFile). file.path) gathered.files) g.kept (λ path h. (g.files path).0 h))

pub no-outputs : (command : Command) (gathered : Gathered) → command.outputs ≡ [] → IsOrderly (here command []) gathered → gathered.command.outputs ≡ []
no-outputs command gathered none o = rw (o.command_is, none) refl

-- the tree of it has no files
pub no-tree : (gathered : Gathered) → gathered.files ≡ [] → (tree_of (map (listed_copy []) gathered.files) gathered.dirs).files ≡ []
no-tree gathered none =
    files-tree_with_directories gathered.dirs (tree_with_files (map (listed_copy []) gathered.files) empty_tree)
    ∙ ap (λ (files : List InputFile). (tree_with_files (map (listed_copy []) files) empty_tree).files) none

-- ---- the Toy tool's run

toy-empty : (command : Command) (tree : Tree) → command.outputs ≡ [] → tree.files ≡ [] → toy_tool command tree ≡ trivial_outcome
toy-empty command tree none bare_tree = rw (bare_tree, none) refl

pub clean-empty : (command : Command) (tree : Tree) (outcome : Outcome) → command.outputs ≡ [] → tree.files ≡ [] → IsClean toy_tool command tree outcome → outcome ≡ trivial_outcome
clean-empty command tree outcome none bare_tree c =
    let ran = toy-empty command tree none bare_tree in
    let exit_is : outcome.exit ≡ trivial_outcome.exit = c.exit_is ∙ ap (λ (o : Outcome). o.exit) ran in
    let zero_is : outcome.exit.code ≡ pos 0 = ap (λ (e : Exit). e.code) exit_is in
    let files_are : outcome.files ≡ [] = c.files_are zero_is ∙ ap (λ (paths : List (List ℕ)). cut_files paths (toy_tool command tree).files) none in
    outcome-of outcome trivial_outcome.exit [] exit_is files_are

pub empty-within : IsWithinLimits trivial_outcome
empty-within = search rules
