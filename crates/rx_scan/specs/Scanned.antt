-- What the scan of a command gives, whose words say this: its declared and its reached files, and where it may be kept here.
use Rattle.std.specs.Prelude.{◌≡◌, ◌≢◌, ◌⊎◌, ◌↔◌, ℕ, List, [], Option, None, Some, Ok, Err, All, Contains, map}
use Rattle.rx_base.specs.SortedPaths.{AreSorted}
use Rattle.rx_world.specs.declared.looks.Look.{Look}
use Rattle.rx_world.specs.declared.refusals.Limit.{Limit}
use Rattle.rx_world.specs.Causes.{Rose}
use Rattle.rx_scan.specs.declared.gather_fault.GatherFault.{GatherFault}
use Rattle.rx_scan.specs.declared.gather_fault.GatherFault.TheVariants.{Blocked, InputChanged, InputMissing, NoMemory, NotRemotable, SourceFault, TooLarge}
use Rattle.rx_scan.specs.declared.limits.Extent.TheVariants.{Scan}
use Rattle.rx_reach.specs.declared.reach.Reached.{Reached}
use Rattle.rx_scan.specs.declared.scanned.ScanPaths.{ScanPaths}
use Rattle.rx_scan.specs.declared.scanned.Scanned.{Scanned}
use Rattle.rx_reach.specs.declared.searches.Search.{Search}
use Rattle.rx_scan.specs.declared.seen_files.SeenFile.{SeenFile}
use Rattle.rx_scan.specs.declared.words.WordMeaning.{WordMeaning}
use Rattle.rx_scan.specs.Inputs.{HasTooMany, IsDeclared, IsEmptyDir, IsTooMany, WasMissing, first_missing}
use Rattle.rx_scan.specs.Limits.{HasPassed, check_of}
use Rattle.rx_scan.specs.Lists.{HasView, Shown, Stretch}
use Rattle.rx_reach.specs.Reach.{IsHard, IsLeastPath, IsLeft, IsReach, IsReached, most_tree_files}
use Rattle.rx_reach.specs.Scenes.{Scene}
use Rattle.rx_reach.specs.Sights.{HaveDiffered}
use Rattle.rx_scan.specs.Whole.{IsSeenIn}

-- a file that an include can reach
abbrev pub IsReachedBy : Scene → Option Search → List ℕ → Type 0
IsReachedBy scene sought path = (search : Search) × (sought ≡ Some search) × IsReached scene search path

-- a declared file, or one that an include can reach
abbrev pub IsScannedBy : Scene → List (List ℕ) → WordMeaning → List ℕ → Type 0
IsScannedBy scene inputs meaning path = IsDeclared scene inputs meaning.roots path ⊎ IsReachedBy scene meaning.search path

-- just the files of the scan, in order, each as the scene has it
pub record IsScanListBy (scene : Scene) (inputs : List (List ℕ)) (meaning : WordMeaning) (all : List SeenFile) : Type 0 where
  pub sorted : AreSorted (map (λ file. file.path) all)
  pub looks : All (IsSeenIn scene) all
  pub only : (path : List ℕ) → Contains (map (λ file. file.path) all) path ↔ IsScannedBy scene inputs meaning path

-- the files of the scan pass this limit first
abbrev pub PassesScanBy : Scene → List (List ℕ) → WordMeaning → Limit → ℕ → Option (List ℕ) → Type 0
PassesScanBy scene inputs meaning limit n path =
    (IsTooMany limit n path × HasTooMany (IsScannedBy scene inputs meaning))
    ⊎ ((all : List SeenFile) × IsScanListBy scene inputs meaning all × (check_of Scan all ≡ Err (TooLarge limit n path)))

-- A directory beside those of the files: a declared one without files, or one that a candidate's name passes and leaves again.
-- The root isn't listed.
abbrev pub IsDirBy : Scene → List (List ℕ) → WordMeaning → List ℕ → Type 0
IsDirBy scene inputs meaning path =
    (path ≢ []) × (IsEmptyDir scene inputs path ⊎ ((search : Search) × (meaning.search ≡ Some search) × IsLeft scene search path))

-- What a scan found is what the scene has, and within the limits.
pub record IsScanOf (scene : Scene) (inputs : List (List ℕ)) (meaning : WordMeaning) (scanned : Scanned) : Type 0 where
  pub there : first_missing scene inputs ≡ None
  pub list : IsScanListBy scene inputs meaning scanned.files
  pub fits : check_of Scan scanned.files ≡ Ok tt
  pub hard : (search : Search) → meaning.search ≡ Some search → IsLeastPath (IsHard scene search) scanned.hard
  pub easy : meaning.search ≡ None → scanned.hard ≡ None
  pub dirs : (path : List ℕ) → Contains scanned.dirs path ↔ IsDirBy scene inputs meaning path

-- The paths that a scan found: nothing declared is missing, and just these are files and directories of it.
pub record IsPathsOf (scene : Scene) (inputs : List (List ℕ)) (meaning : WordMeaning) (paths : ScanPaths) : Type 0 where
  pub there : first_missing scene inputs ≡ None
  pub files : (path : List ℕ) → Contains paths.files path ↔ IsScannedBy scene inputs meaning path
  pub hard : (search : Search) → meaning.search ≡ Some search → IsLeastPath (IsHard scene search) paths.hard
  pub easy : meaning.search ≡ None → paths.hard ≡ None
  pub dirs : (path : List ℕ) → Contains paths.dirs path ↔ IsDirBy scene inputs meaning path

-- a count of declared files, or files that were seen, pass this limit first
abbrev pub WasLimited : List (List ℕ × Look) → Limit → ℕ → Option (List ℕ) → Type 0
WasLimited view limit n path = IsTooMany limit n path ⊎ HasPassed Scan view limit n path

-- each refusal of a scan only for its cause; a limit is refused only where no input is missing
abbrev pub BlamesScan : List (List ℕ) → WordMeaning → GatherFault → Stretch → Type 0
BlamesScan inputs meaning (InputMissing path) st = HasView st × WasMissing inputs st.new path
BlamesScan inputs meaning (SourceFault path) st = Rose st.before st.now
BlamesScan inputs meaning (InputChanged change) st = HaveDiffered st.old st.answers change
BlamesScan inputs meaning (TooLarge limit n path) st =
    WasLimited st.new limit n path × HasView st
    × Shown st (λ scene. (first_missing scene inputs ≡ None) × PassesScanBy scene inputs meaning limit n path)
BlamesScan inputs meaning (NotRemotable cause) st = ⊥
BlamesScan inputs meaning (Blocked path) st = ⊥
BlamesScan inputs meaning NoMemory st = Unit {0}

-- what includes reach, where they are followed at all
abbrev pub IsReachOf : Scene → Option Search → Reached → Type 0
IsReachOf scene None reached = (reached.files ≡ []) × (reached.hard ≡ None) × (reached.left ≡ [])
IsReachOf scene (Some search) reached = IsReach most_tree_files scene search reached
