-- What gathering gives: the command with all its outputs, the files and directories that it runs on, and its plan; or why not.
use Rattle.std.specs.Prelude.{◌≡◌, ◌≢◌, ◌⊎◌, ◌↔◌, ◌≤◌, ℕ, true, List, [], Option, None, Some, Result, Ok, All, Contains, MatchResult, length, map}
use Rattle.std.specs.Option.{option_map}
use Rattle.rx_base.specs.Paths.{is_below}
use Rattle.rx_base.specs.SortedPaths.{AreSorted}
use Rattle.rx_cppflags.specs.declared.readings.Reading.{Reading}
use Rattle.rx_world.specs.declared.attempts.Plan.{Plan}
use Rattle.rx_world.specs.declared.commands.Command.{Command}
use Rattle.rx_world.specs.declared.commands.Kind.{Kind}
use Rattle.rx_scan.specs.declared.plans.Choice.{Choice}
use Rattle.rx_world.specs.declared.looks.Look.{Look}
use Rattle.rx_world.specs.declared.looks.Look.TheVariants.{File}
use Rattle.rx_world.specs.declared.refusals.Limit.{Limit}
use Rattle.rx_world.specs.declared.refusals.LocalCause.{LocalCause}
use Rattle.rx_world.specs.declared.refusals.LocalCause.TheVariants as local
use Rattle.rx_world.specs.declared.sources.Given.{Given}
use Rattle.rx_world.specs.declared.sources.Sources as sources
use Rattle.rx_world.specs.declared.world.World as world
use Rattle.rx_world.specs.Causes.{Rose}
use Rattle.rx_world.specs.Sources.{is_file}
use Rattle.rx_scan.specs.declared.gathering.Gathered.{Gathered}
use Rattle.rx_scan.specs.declared.gather_fault.GatherFault.{GatherFault}
use Rattle.rx_scan.specs.declared.gather_fault.GatherFault.TheVariants.{Blocked, InputChanged, InputMissing, NoMemory, NotRemotable, SourceFault, TooLarge}
use Rattle.rx_scan.specs.declared.limits.Extent.TheVariants.{Scan, WholeList}
use Rattle.rx_reach.specs.declared.searches.Search.{Search}
use Rattle.rx_scan.specs.declared.seen_files.SeenFile.{SeenFile}
use Rattle.rx_scan.specs.declared.words.WordMeaning.{WordMeaning}
use Rattle.rx_scan.specs.Inputs.{IsEmptyDir, WasMissing, first_missing}
use Rattle.rx_scan.specs.Limits.{HasPassed, check_of}
use Rattle.rx_scan.specs.Lists.{HasView, Listing, Shown, Stretch, Tells, stretch}
use Rattle.rx_reach.specs.Explored.{AreSeen}
use Rattle.rx_reach.specs.Opened.{IsOpened}
use Rattle.rx_scan.specs.Plans.{local_plan, ordinary_plan}
use Rattle.rx_reach.specs.Reach.{IsHard, IsLeastPath, IsLeft}
use Rattle.rx_scan.specs.Scanned.{IsScanListBy, IsScannedBy, PassesScanBy, WasLimited}
use Rattle.rx_reach.specs.Scenes.{Scene}
use Rattle.rx_reach.specs.Sights.{IsChangeFrom, IsKnownAt, sights_of}
use Rattle.rx_scan.specs.Ways.{WasBlocked, blocked}
use Rattle.rx_scan.specs.Whole.{IsListOf, PassesWhole}
use Rattle.rx_scan.specs.Words.{outputs_for, reading_for, meaning_of, search_for, with_outputs, word_for, word_in}

-- ---- what is asked for

-- What is asked for: a command, its kind, its declared inputs, and what is chosen for it.
pub record Asked : Type 0 where
  pub command : Command
  pub kind : Kind
  pub inputs : List (List ℕ)
  pub choice : Choice

abbrev pub asked_for : Command → Kind → List (List ℕ) → Choice → Asked
asked_for command kind inputs choice = record { command = command; kind = kind; inputs = inputs; choice = choice }

abbrev pub reading_asked : Asked → Option Reading
reading_asked asked = reading_for asked.kind asked.command asked.inputs

abbrev pub search_asked : Asked → Option Search
search_asked asked = search_for asked.command (reading_asked asked)

-- all that its words say
abbrev pub meaning_asked : Asked → WordMeaning
meaning_asked asked = meaning_of asked.command (reading_asked asked)

-- the command with all its outputs, in order
abbrev pub command_asked : Asked → Command
command_asked asked = with_outputs asked.command (outputs_for (reading_asked asked))

-- ---- which files

-- a declared file, or one that an include can reach
abbrev pub IsScanned : Scene → Asked → List ℕ → Type 0
IsScanned scene asked path = IsScannedBy scene asked.inputs (meaning_asked asked) path

-- What keeps the command on this machine: a word, else the least path at which its includes can't be followed.
pub record IsKept (scene : Scene) (asked : Asked) (cause : Option LocalCause) : Type 0 where
  pub by_word : (word : List ℕ) → word_for (reading_asked asked) ≡ Some word → cause ≡ Some (local.Word word)
  pub by_path : (search : Search) → search_asked asked ≡ Some search →
      (hard : Option (List ℕ)) × IsLeastPath (IsHard scene search) hard × (cause ≡ option_map (λ path. local.Path path) hard)
  pub of_tool : reading_asked asked ≡ None → cause ≡ None

-- the plan; a command that is kept here has none where it is to run remotely, or where its client runs it
abbrev pub plan_of : Choice → Option LocalCause → Option Plan
plan_of choice None = Some (ordinary_plan choice.strategy)
plan_of choice (Some cause) = local_plan choice

-- what may keep the command here, whatever the source tree tells: nothing of a tool, a word that is no compile word, else perhaps a path
abbrev pub MayKeepBy : Option (List ℕ) → Option LocalCause → Type 0
MayKeepBy (Some word) cause = cause ≡ Some (local.Word word)
MayKeepBy None cause = (hard : Option (List ℕ)) × (cause ≡ option_map (λ path. local.Path path) hard)

abbrev pub MayKeep : Option Reading → Option LocalCause → Type 0
MayKeep None cause = cause ≡ None
MayKeep (Some read) cause = MayKeepBy (word_in read) cause

-- a plan that the choice has for such a command
abbrev pub IsPlanned : Asked → Plan → Type 0
IsPlanned asked plan = (cause : Option LocalCause) × MayKeep (reading_asked asked) cause × (plan_of asked.choice cause ≡ Some plan)

-- a file of the input tree: one of the scan; of a command that is kept here, any that isn't its output
abbrev pub IsInput : Scene → Asked → Option LocalCause → List ℕ → Type 0
IsInput scene asked None path = IsScanned scene asked path
IsInput scene asked (Some cause) path = (is_file (scene.look path) ≡ true) × (Contains (command_asked asked).outputs path → ⊥)

-- A directory of the input tree beside those of its files: the working directory, a declared directory without files, or one
-- that a candidate's name passes and leaves again. The root isn't listed.
abbrev pub IsInputDir : Scene → Asked → List ℕ → Type 0
IsInputDir scene asked path =
    (path ≢ [])
    × ((path ≡ asked.command.working_directory)
    ⊎ IsEmptyDir scene asked.inputs path
    ⊎ ((search : Search) × (search_asked asked ≡ Some search) × IsLeft scene search path))

-- ---- limits

-- just the files of the scan, in order, each as the scene has it
abbrev pub IsScanList : Scene → Asked → List SeenFile → Type 0
IsScanList scene asked all = IsScanListBy scene asked.inputs (meaning_asked asked) all

-- the files of the scan pass this limit first
abbrev pub PassesScan : Scene → Asked → Limit → ℕ → Option (List ℕ) → Type 0
PassesScan scene asked limit n path = PassesScanBy scene asked.inputs (meaning_asked asked) limit n path

-- the command is kept here, and the whole list passes this limit first
abbrev pub PassesList : Scene → Asked → Limit → ℕ → Option (List ℕ) → Type 0
PassesList scene asked limit n path =
    ((cause : LocalCause) × IsKept scene asked (Some cause))
    × PassesWhole scene limit n path

-- the files of the scan pass no limit
abbrev pub IsWithinScan : Scene → Asked → Type 0
IsWithinScan scene asked = (all : List SeenFile) × IsScanList scene asked all × (check_of Scan all ≡ Ok tt)

-- no limit is passed
pub record IsWithin (scene : Scene) (asked : Asked) (cause : Option LocalCause) : Type 0 where
  pub scan : IsWithinScan scene asked
  pub list : (cause ≡ None) ⊎ ((all : List SeenFile) × IsListOf scene all × (check_of WholeList all ≡ Ok tt))

-- ---- what is given

-- What was gathered is what the scene has. Each file that a command opens whose includes can be followed, in whichever branches,
-- is among its files.
pub record IsGathered (scene : Scene) (asked : Asked) (gathered : Gathered) : Type 0 where
  pub cause : Option LocalCause
  pub kept : IsKept scene asked cause
  pub plan_is : plan_of asked.choice cause ≡ Some gathered.plan
  pub there : first_missing scene asked.inputs ≡ None
  pub files : (path : List ℕ) → Contains (map (λ file. file.path) gathered.files) path ↔ IsInput scene asked cause path
  pub looks : All (λ file. scene.look file.path ≡ File file.stamp file.executable) gathered.files
  pub dirs : (path : List ℕ) → Contains gathered.dirs path ↔ IsInputDir scene asked path
  pub opened : cause ≡ None → (search : Search) → search_asked asked ≡ Some search → (path : List ℕ) → IsOpened scene search path →
      Contains (map (λ file. file.path) gathered.files) path
  pub within : IsWithin scene asked cause

-- none of these paths stands above another
abbrev pub AreApart : List (List ℕ) → Type 0
AreApart paths = (upper lower : List ℕ) → Contains paths upper → Contains paths lower → is_below lower upper ≡ true → ⊥

-- What was gathered can be staged and built, whatever the source tree answered: the plan is one that the choice has; there are no more
-- files than a tree may have, each once, in order; none stands above another, at or above a directory or the working directory, or above an output.
pub record IsOrderly (asked : Asked) (gathered : Gathered) : Type 0 where
  pub command_is : gathered.command ≡ command_asked asked
  pub planned : IsPlanned asked gathered.plan
  pub few : length gathered.files ≤ 50000
  pub sorted : AreSorted (map (λ file. file.path) gathered.files)
  pub sorted_dirs : AreSorted gathered.dirs
  pub sorted_view : AreSorted (map (λ found. found.path) gathered.view)
  pub apart : AreApart (map (λ file. file.path) gathered.files)
  pub clear : (file dir : List ℕ) → Contains (map (λ file. file.path) gathered.files) file → Contains gathered.dirs dir → (dir ≡ file) ⊎ (is_below dir file ≡ true) → ⊥
  pub free : blocked gathered.command (map (λ file. file.path) gathered.files) ≡ None
  pub outputs_apart : AreApart asked.command.outputs → AreApart gathered.command.outputs
  pub outputs_below : All (λ output. is_below output asked.command.working_directory ≡ true) asked.command.outputs →
      All (λ output. is_below output asked.command.working_directory ≡ true) gathered.command.outputs

-- ---- the order of the refusals

-- Gathering goes step by step, and each refusal is that of the first step that doesn't go well. The first step looks at nothing: no
-- word keeps a command here that has no plan then.
abbrev pub AllowsWords : Asked → Type 0
AllowsWords asked = (word : List ℕ) → word_for (reading_asked asked) ≡ Some word → plan_of asked.choice (Some (local.Word word)) ≢ None

-- the second: there is something at each declared input
pub record HasInputs (scene : Scene) (asked : Asked) : Type 0 where
  pub words : AllowsWords asked
  pub there : first_missing scene asked.inputs ≡ None

-- the third: the files of the scan pass no limit
pub record FitsScan (scene : Scene) (asked : Asked) : Type 0 where
  pub inputs : HasInputs scene asked
  pub scan : IsWithinScan scene asked

-- the fourth: whatever keeps the command here, it has a plan
pub record HasPlan (scene : Scene) (asked : Asked) : Type 0 where
  pub fits : FitsScan scene asked
  pub planned : (cause : LocalCause) → IsKept scene asked (Some cause) → plan_of asked.choice (Some cause) ≢ None

-- what went before a command is refused that is kept here without a plan: where a word keeps it here nothing was asked of the source tree, and
-- where a path does it was looked at, and the scan went well
abbrev pub IsKeptAfter : Asked → LocalCause → Stretch → Type 0
IsKeptAfter asked (local.Word word) st = (st.answers ≡ []) × (st.lists ≡ [])
IsKeptAfter asked (local.Path path) st = IsKnownAt st.new path × Shown st (λ scene. FitsScan scene asked)

-- ---- refusals

-- a count of declared files, or files that were seen, pass this limit of a scan or of a whole list first
abbrev pub IsLimited : List (List ℕ × Look) → Limit → ℕ → Option (List ℕ) → Type 0
IsLimited view limit n path = WasLimited view limit n path ⊎ HasPassed WholeList view limit n path

-- the files of the scan pass this limit first, or those of the whole list, where the command is kept here and has a plan
abbrev pub PassesLimit : Scene → Asked → Limit → ℕ → Option (List ℕ) → Type 0
PassesLimit scene asked limit n path =
    (HasInputs scene asked × PassesScan scene asked limit n path) ⊎ (HasPlan scene asked × PassesList scene asked limit n path)

-- the steps before went well, and of just the input tree's files this stands in the way
pub record HasInWay (scene : Scene) (asked : Asked) (path : List ℕ) : Type 0 where
  pub cause : Option LocalCause
  pub files : List (List ℕ)
  pub kept : IsKept scene asked cause
  pub planned : HasPlan scene asked
  pub within : IsWithin scene asked cause
  pub sorted : AreSorted files
  pub each : (file : List ℕ) → Contains files file ↔ IsInput scene asked cause file
  pub blocks : blocked (command_asked asked) files ≡ Some path

-- Each refusal only for its cause: by the first look at each path, from which no answer differs, and in each scene that shows what was
-- told; and only where the steps before it went well. A fault of the source tree and a path that was seen in two ways are refused
-- wherever they are met.
abbrev pub BlamesGather : Asked → GatherFault → Stretch → Type 0
BlamesGather asked (InputMissing path) st = AllowsWords asked × HasView st × WasMissing asked.inputs st.new path
BlamesGather asked (SourceFault path) st = Rose st.before st.now
BlamesGather asked (TooLarge limit n path) st =
    HasView st × IsLimited st.new limit n path × Shown st (λ scene. PassesLimit scene asked limit n path)
BlamesGather asked (InputChanged change) st = IsChangeFrom st.old st.answers change
BlamesGather asked (NotRemotable cause) st =
    (plan_of asked.choice (Some cause) ≡ None) × HasView st × IsKeptAfter asked cause st × Shown st (λ scene. IsKept scene asked (Some cause))
BlamesGather asked (Blocked path) st =
    HasView st × WasBlocked (command_asked asked) st.new path × Shown st (λ scene. HasInWay scene asked path)
BlamesGather asked NoMemory st = Unit {0}

-- ---- the whole

-- What was gathered is what was told: its view is the first look at each path, its files are among it, and it is right in each scene
-- that shows all that was told.
pub record IsGatheredBy (asked : Asked) (gathered : Gathered) (st : Stretch) : Type 0 where
  pub view_is : sights_of gathered.view ≡ st.new
  pub viewed : HasView st
  pub seen : AreSeen st.new gathered.files
  pub shown : Shown st (λ scene. IsGathered scene asked gathered)

-- What gathering gave of what a source tree told between two of its states, or why it gave nothing. The view is the first look at each path.
pub record Gathers {T W : Type 0} (w : world.Ghosts W) (s : sources.Ghosts T W) (before after : T) (asked : Asked) (result : Result Gathered GatherFault) : Type 0 where
  pub answers : List Given
  pub lists : List Listing
  pub view : List (List ℕ × Look)
  pub tells : Tells w s before after answers lists
  pub outcome : MatchResult result
      (λ gathered. IsGatheredBy asked gathered (stretch [] view (s.faults before) (s.faults after) answers lists))
      (λ fault. BlamesGather asked fault (stretch [] view (s.faults before) (s.faults after) answers lists))
