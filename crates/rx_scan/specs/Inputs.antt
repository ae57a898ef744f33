-- The declared inputs of a command, and the files that they stand for.
use Rattle.std.specs.Prelude.{◌≡◌, ◌<◌, ◌⊎◌, ℕ, Bool, true, false, not, List, [], ◌∷◌, ◌++◌, Option, None, Some, All, Contains, filter, length, ◌↔◌}
use Rattle.std.specs.List.{find, list_any}
use Rattle.rx_base.specs.Paths.{is_below}
use Rattle.rx_base.specs.SortedPaths.{AreSorted, HasSameMembers}
use Rattle.rx_world.specs.declared.looks.Look.{Look}
use Rattle.rx_world.specs.declared.looks.Look.TheVariants.{Absent, Dir, File, Other}
use Rattle.rx_world.specs.Causes.{Rose}
use Rattle.rx_world.specs.Sources.{is_file}
use Rattle.rx_scan.specs.declared.gather_fault.GatherFault.{GatherFault}
use Rattle.rx_scan.specs.declared.gather_fault.GatherFault.TheVariants.{Blocked, InputChanged, InputMissing, NoMemory, NotRemotable, SourceFault, TooLarge}
use Rattle.rx_world.specs.declared.refusals.Limit.{Limit}
use Rattle.rx_world.specs.declared.refusals.Limit.TheVariants.{ScanFiles}
use Rattle.rx_scan.specs.declared.inputs.Declared.{Declared}
use Rattle.rx_scan.specs.declared.inputs.LookedInputs.{LookedInputs}
use Rattle.rx_reach.specs.Candidates.{is_dir}
use Rattle.rx_scan.specs.Lists.{HasView, Shown, Stretch, is_under}
use Rattle.rx_reach.specs.Scenes.{Scene, Sees}
use Rattle.rx_reach.specs.Sights.{HaveDiffered, seen_at}

abbrev pub is_absent : Look → Bool
is_absent Absent = true
is_absent (File stamp executable) = false
is_absent Dir = false
is_absent Other = false

-- the first of these paths at which there is nothing
abbrev pub first_missing : Scene → List (List ℕ) → Option (List ℕ)
first_missing scene inputs = find (λ input. is_absent (scene.look input)) inputs

-- ---- the declared files

-- the file that an input is, or a file below the directory that it is
abbrev pub IsOfInput : Scene → List ℕ → List ℕ → Type 0
IsOfInput scene input path = (path ≡ input) ⊎ ((is_dir (scene.look input) ≡ true) × (is_below path input ≡ true))

-- A declared file: one that a declared input stands for, or one at or below a system root.
abbrev pub IsDeclared : Scene → List (List ℕ) → List (List ℕ) → List ℕ → Type 0
IsDeclared scene inputs roots path =
    (is_file (scene.look path) ≡ true)
    × (((input : List ℕ) × Contains inputs input × IsOfInput scene input path) ⊎ ((root : List ℕ) × Contains roots root × (is_under root path ≡ true)))

-- a declared directory without a file below it
abbrev pub IsEmptyDir : Scene → List (List ℕ) → List ℕ → Type 0
IsEmptyDir scene inputs dir =
    Contains inputs dir × (is_dir (scene.look dir) ≡ true) × ((path : List ℕ) → is_file (scene.look path) ≡ true → is_below path dir ≡ false)

-- What the declared inputs stand for: nothing is missing, the files are just those that are declared, in order, and the directories
-- those that are empty.
pub record IsDeclaredBy (scene : Scene) (inputs roots : List (List ℕ)) (declared : Declared) : Type 0 where
  pub there : first_missing scene inputs ≡ None
  pub files : (path : List ℕ) → Contains declared.files path ↔ IsDeclared scene inputs roots path
  pub empty : (dir : List ℕ) → Contains declared.empty_dirs dir ↔ IsEmptyDir scene inputs dir

-- more paths than a scan may have files, each of them such
abbrev pub HasTooMany : (List ℕ → Type 0) → Type 0
HasTooMany P = (files : List (List ℕ)) × AreSorted files × (20000 < length files) × All P files

-- the limit on the files of a scan, which their count alone passes
abbrev pub IsTooMany : Limit → ℕ → Option (List ℕ) → Type 0
IsTooMany limit n path = (limit ≡ ScanFiles) × (n ≡ 20001) × (path ≡ None)

-- by what was seen nothing stands at the path, which is the first such of the inputs
abbrev pub WasMissing : List (List ℕ) → List (List ℕ × Look) → List ℕ → Type 0
WasMissing inputs view path = (seen_at view path ≡ Some Absent) × Sees view (λ scene. first_missing scene inputs ≡ Some path)

-- each refusal of the declared inputs only for its cause; too many are refused only where none is missing
abbrev pub BlamesInputs : List (List ℕ) → List (List ℕ) → GatherFault → Stretch → Type 0
BlamesInputs inputs roots (InputMissing path) st = HasView st × WasMissing inputs st.new path
BlamesInputs inputs roots (SourceFault path) st = Rose st.before st.now
BlamesInputs inputs roots (InputChanged change) st = HaveDiffered st.old st.answers change
BlamesInputs inputs roots (TooLarge limit n path) st =
    IsTooMany limit n path × HasView st
    × Shown st (λ scene. (first_missing scene inputs ≡ None) × HasTooMany (IsDeclared scene inputs roots))
BlamesInputs inputs roots (NotRemotable cause) st = ⊥
BlamesInputs inputs roots (Blocked path) st = ⊥
BlamesInputs inputs roots NoMemory st = Unit {0}

-- ---- the looks at them

-- the inputs that are files and those that are directories, in order
pub record IsLooked (scene : Scene) (inputs : List (List ℕ)) (looked : LookedInputs) : Type 0 where
  pub there : first_missing scene inputs ≡ None
  pub files : looked.files ≡ filter (λ input. is_file (scene.look input)) inputs
  pub dirs : looked.dirs ≡ filter (λ input. is_dir (scene.look input)) inputs

-- one look more
abbrev pub with_look : LookedInputs → List ℕ → Look → LookedInputs
with_look looked path Absent = looked
with_look looked path (File stamp executable) = record { files = looked.files ++ path ∷ []; dirs = looked.dirs }
with_look looked path Dir = record { files = looked.files; dirs = looked.dirs ++ path ∷ [] }
with_look looked path Other = looked

-- the directories below which there is none of these files
abbrev pub empty_among : List (List ℕ) → List (List ℕ) → List (List ℕ)
empty_among files dirs = filter (λ dir. not (list_any (λ file. is_below file dir) files)) dirs

-- ---- the lists of them

-- the refusal of more files than a scan may have
abbrev pub too_many : GatherFault
too_many = TooLarge ScanFiles 20001 None

-- these paths, each once, are more than a scan may have files
abbrev pub AreOver : List (List ℕ) → Type 0
AreOver paths = (once : List (List ℕ)) × AreSorted once × HasSameMembers paths once × (20000 < length once)

-- a list alone, or all paths together, are more than a scan may have files
abbrev pub IsOver : List (List ℕ) → List (List ℕ) → Type 0
IsOver files found = (20000 < length found) ⊎ AreOver (files ++ found)

-- no refusal but that of too many files, which are so many, and want of memory
abbrev pub OnlyTooMany : Type 0 → GatherFault → Type 0
OnlyTooMany Over (TooLarge limit n path) = IsTooMany limit n path × Over
OnlyTooMany Over (InputMissing path) = ⊥
OnlyTooMany Over (SourceFault path) = ⊥
OnlyTooMany Over (InputChanged change) = ⊥
OnlyTooMany Over (NotRemotable cause) = ⊥
OnlyTooMany Over (Blocked path) = ⊥
OnlyTooMany Over NoMemory = Unit {0}

-- a file at or below one of these paths
abbrev pub IsUnderOne : Scene → List (List ℕ) → List ℕ → Type 0
IsUnderOne scene roots path = (is_file (scene.look path) ≡ true) × ((root : List ℕ) × Contains roots root × (is_under root path ≡ true))

-- these files, and all files at or below these paths
abbrev pub HasListed : Scene → List (List ℕ) → List (List ℕ) → List (List ℕ) → Type 0
HasListed scene files roots all = (path : List ℕ) → Contains all path ↔ (Contains files path ⊎ IsUnderOne scene roots path)

-- each refusal of the lists only for its cause
abbrev pub BlamesLists : List (List ℕ) → List (List ℕ) → GatherFault → Stretch → Type 0
BlamesLists files roots (InputMissing path) st = ⊥
BlamesLists files roots (SourceFault path) st = Rose st.before st.now
BlamesLists files roots (InputChanged change) st = HaveDiffered st.old st.answers change
BlamesLists files roots (TooLarge limit n path) st =
    IsTooMany limit n path × HasView st × Shown st (λ scene. HasTooMany (λ file. Contains files file ⊎ IsUnderOne scene roots file))
BlamesLists files roots (NotRemotable cause) st = ⊥
BlamesLists files roots (Blocked path) st = ⊥
BlamesLists files roots NoMemory st = Unit {0}
