-- Everything that a source tree lists but the outputs of a command.
use Rattle.std.specs.Prelude.{◌≡◌, ◌≤◌, ◌↔◌, ℕ, true, List, Option, Ok, Err, All, Contains, filter, length, map, not}
use Rattle.std.specs.List.{list_any}
use Rattle.std.specs.Str.{bytes_eq}
use Rattle.rx_base.specs.SortedPaths.{AreSorted}
use Rattle.rx_world.specs.declared.looks.Look.TheVariants.{File}
use Rattle.rx_world.specs.declared.refusals.Limit.{Limit}
use Rattle.rx_world.specs.Causes.{Rose}
use Rattle.rx_world.specs.Sources.{is_file}
use Rattle.rx_scan.specs.declared.gather_fault.GatherFault.{GatherFault}
use Rattle.rx_scan.specs.declared.gather_fault.GatherFault.TheVariants.{Blocked, InputChanged, InputMissing, NoMemory, NotRemotable, SourceFault, TooLarge}
use Rattle.rx_scan.specs.declared.limits.Extent.TheVariants.{WholeList}
use Rattle.rx_scan.specs.declared.seen_files.SeenFile.{SeenFile}
use Rattle.rx_scan.specs.Limits.{HasPassed, check_of}
use Rattle.rx_scan.specs.Lists.{HasView, Shown, Stretch}
use Rattle.rx_reach.specs.Scenes.{Scene}
use Rattle.rx_reach.specs.Sights.{HaveDiffered}

-- the paths that aren't among the others
abbrev pub without : List (List ℕ) → List (List ℕ) → List (List ℕ)
without paths others = filter (λ path. not (list_any (λ other. bytes_eq path other) others)) paths

-- the file is as the scene has it
abbrev pub IsSeenIn : Scene → SeenFile → Type 0
IsSeenIn scene file = scene.look file.path ≡ File file.stamp file.executable

-- Files of the scene, in order, and all of them where they are no more than a whole list may have.
pub record IsListOf (scene : Scene) (all : List SeenFile) : Type 0 where
  pub sorted : AreSorted (map (λ file. file.path) all)
  pub looks : All (IsSeenIn scene) all
  pub whole : length all ≤ 50000 → (path : List ℕ) → is_file (scene.look path) ≡ true → Contains (map (λ file. file.path) all) path

-- Just the files of the scene that aren't outputs, each as the scene has it; and with the outputs they are within the limits.
pub record IsWholeBy (scene : Scene) (outputs : List (List ℕ)) (inputs : List SeenFile) : Type 0 where
  pub looks : All (IsSeenIn scene) inputs
  pub only : (path : List ℕ) → Contains (map (λ file. file.path) inputs) path ↔ ((is_file (scene.look path) ≡ true) × (Contains outputs path → ⊥))
  pub fits : (all : List SeenFile) × IsListOf scene all × (check_of WholeList all ≡ Ok tt)

-- files of the scene that pass this limit of a whole list first
abbrev pub PassesWhole : Scene → Limit → ℕ → Option (List ℕ) → Type 0
PassesWhole scene limit n path = (all : List SeenFile) × IsListOf scene all × (check_of WholeList all ≡ Err (TooLarge limit n path))

-- each refusal of the whole list only for its cause
abbrev pub BlamesWhole : GatherFault → Stretch → Type 0
BlamesWhole (TooLarge limit n path) st = HasPassed WholeList st.new limit n path × HasView st × Shown st (λ scene. PassesWhole scene limit n path)
BlamesWhole (SourceFault path) st = Rose st.before st.now
BlamesWhole (InputChanged change) st = HaveDiffered st.old st.answers change
BlamesWhole (InputMissing path) st = ⊥
BlamesWhole (NotRemotable cause) st = ⊥
BlamesWhole (Blocked path) st = ⊥
BlamesWhole NoMemory st = Unit {0}
