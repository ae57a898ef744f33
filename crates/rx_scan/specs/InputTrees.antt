-- The input tree of a command, before the digests of its files are known.
use Rattle.std.specs.Prelude.{◌≡◌, ◌≢◌, ◌⊎◌, ◌↔◌, ◌≤◌, ℕ, Bool, true, false, List, [], Option, None, Some, Contains, length, map}
use Rattle.std.specs.Option.{is_some, option_map}
use Rattle.rx_base.specs.SortedPaths.{AreSorted}
use Rattle.rx_world.specs.declared.commands.Command.{Command}
use Rattle.rx_scan.specs.declared.plans.Choice.{Choice}
use Rattle.rx_world.specs.declared.refusals.LocalCause.{LocalCause}
use Rattle.rx_world.specs.declared.refusals.LocalCause.TheVariants as local
use Rattle.rx_world.specs.Causes.{Rose}
use Rattle.rx_scan.specs.declared.gather_fault.GatherFault.{GatherFault}
use Rattle.rx_scan.specs.declared.gather_fault.GatherFault.TheVariants.{Blocked, InputChanged, InputMissing, NoMemory, NotRemotable, SourceFault, TooLarge}
use Rattle.rx_scan.specs.declared.input_trees.InputTree.{InputTree}
use Rattle.rx_scan.specs.declared.limits.Extent.TheVariants.{WholeList}
use Rattle.rx_scan.specs.declared.seen_files.SeenFile.{SeenFile}
use Rattle.rx_scan.specs.Gathering.{plan_of}
use Rattle.rx_scan.specs.Limits.{HasPassed}
use Rattle.rx_scan.specs.Lists.{HasView, Shown, Stretch}
use Rattle.rx_reach.specs.Scenes.{Scene}
use Rattle.rx_reach.specs.Sights.{IsChangeFrom}
use Rattle.rx_scan.specs.Ways.{WasBlocked, blocked, over_among, upper_among}
use Rattle.rx_scan.specs.Whole.{BlamesWhole, IsWholeBy, PassesWhole}

abbrev pub paths_of : List SeenFile → List (List ℕ)
paths_of files = map (λ file. file.path) files

-- what keeps a command here: a word, else a path
abbrev pub cause_of : Option (List ℕ) → Option (List ℕ) → Option LocalCause
cause_of (Some word) hard = Some (local.Word word)
cause_of None hard = option_map (λ path. local.Path path) hard

-- The files of the tree: those of the scan; of a command that is kept here all but its outputs.
abbrev pub IsFilesIf : Scene → List (List ℕ) → List SeenFile → Bool → List SeenFile → Type 0
IsFilesIf scene outputs scanned false files = files ≡ scanned
IsFilesIf scene outputs scanned true files = IsWholeBy scene outputs files

-- the refusals of a whole list, which is asked for where the command is kept here
abbrev pub BlamesWholeIf : Bool → GatherFault → Stretch → Type 0
BlamesWholeIf false fault st = ⊥
BlamesWholeIf true fault st = BlamesWhole fault st

-- The tree can be staged, whatever the source tree told.
pub record IsOrderlyTree (command : Command) (beside : List (List ℕ)) (tree : InputTree) : Type 0 where
  pub few : length tree.files ≤ 50000
  pub sorted : AreSorted (paths_of tree.files)
  pub sorted_dirs : AreSorted tree.dirs
  pub dirs : (path : List ℕ) → Contains tree.dirs path ↔ ((path ≢ []) × (Contains beside path ⊎ (path ≡ command.working_directory)))
  pub apart : upper_among (paths_of tree.files) (paths_of tree.files) ≡ None
  pub clear : over_among (paths_of tree.files) beside ≡ None
  pub free : blocked command (paths_of tree.files) ≡ None

-- files of the tree are in the way of the command
abbrev pub HasBlocked : Scene → Command → List SeenFile → Option LocalCause → List ℕ → Type 0
HasBlocked scene command scanned cause path =
    (files : List SeenFile) × IsFilesIf scene command.outputs scanned (is_some cause) files × AreSorted (paths_of files) × (blocked command (paths_of files) ≡ Some path)

-- each refusal of the tree only for its cause; those that come after the choice of a plan tell that there is one
abbrev pub BlamesTree : Command → List SeenFile → Option LocalCause → Choice → GatherFault → Stretch → Type 0
BlamesTree command scanned cause choice (InputMissing path) st = ⊥
BlamesTree command scanned cause choice (SourceFault path) st = Rose st.before st.now
BlamesTree command scanned cause choice (InputChanged change) st = IsChangeFrom st.old st.answers change
BlamesTree command scanned cause choice (TooLarge limit n path) st =
    (is_some cause ≡ true) × (plan_of choice cause ≢ None)
    × HasPassed WholeList st.new limit n path × HasView st × Shown st (λ scene. PassesWhole scene limit n path)
BlamesTree command scanned cause choice (NotRemotable kept) st = (cause ≡ Some kept) × (plan_of choice cause ≡ None) × HasView st
BlamesTree command scanned cause choice (Blocked path) st =
    (plan_of choice cause ≢ None) × HasView st × WasBlocked command st.new path × Shown st (λ scene. HasBlocked scene command scanned cause path)
BlamesTree command scanned cause choice NoMemory st = Unit {0}
