-- What stands in the way of a command.
use Rattle.std.specs.Prelude.{◌≡◌, ℕ, ◌||◌, Bool, true, false, List, [], ◌∷◌, Option, None, Some, All, find, map, position, slice_get}
use Rattle.std.specs.List.{list_any}
use Rattle.std.specs.Option.{option_or}
use Rattle.std.specs.Str.{bytes_eq}
use Rattle.rx_base.specs.Paths.{is_below}
use Rattle.rx_base.specs.SortedPaths.{AreSorted, first_at_or_above}
use Rattle.rx_world.specs.declared.commands.Command.{Command}
use Rattle.rx_world.specs.declared.looks.ChangedInput.{ChangedInput}
use Rattle.rx_world.specs.declared.looks.Look.{Look}
use Rattle.rx_world.specs.declared.looks.Look.TheVariants.{Dir, File}
use Rattle.rx_scan.specs.declared.gather_fault.GatherFault.{GatherFault}
use Rattle.rx_scan.specs.declared.gather_fault.GatherFault.TheVariants.{Blocked, InputChanged, InputMissing, NoMemory, NotRemotable, SourceFault, TooLarge}
use Rattle.rx_scan.specs.declared.seen_files.SeenFile.{SeenFile}
use Rattle.rx_scan.specs.Digests.{IsSeen}

-- which of these files, the first such, a path stands below
abbrev pub above_among : List (List ℕ) → List ℕ → Option ℕ
above_among files path = position (λ file. is_below path file) files

-- the file that the first of these paths that stands below one stands below
abbrev pub upper_among : List (List ℕ) → List (List ℕ) → Option ℕ
upper_among files [] = None
upper_among files (path ∷ paths) = option_or (above_among files path) (upper_among files paths)

-- the file that the first of these directories that is one or stands below one is or stands below
abbrev pub over_among : List (List ℕ) → List (List ℕ) → Option ℕ
over_among files [] = None
over_among files (dir ∷ dirs) = option_or (first_at_or_above files dir) (over_among files dirs)

-- What stands in the way of the command: a file at or above its working directory, or above an output. The path is the working
-- directory, or the least such output.
abbrev pub blocked_in : Bool → Command → List (List ℕ) → Option (List ℕ)
blocked_in true command files = Some command.working_directory
blocked_in false command files = find (λ output. list_any (λ file. is_below output file) files) command.outputs

abbrev pub blocked : Command → List (List ℕ) → Option (List ℕ)
blocked command files =
    blocked_in (list_any (λ file. bytes_eq command.working_directory file || is_below command.working_directory file) files) command files

-- by files that were seen, in order, this stands in the way
abbrev pub WasBlocked : Command → List (List ℕ × Look) → List ℕ → Type 0
WasBlocked command view path =
    (files : List SeenFile) × AreSorted (map (λ file. file.path) files) × All (IsSeen view) files
    × (blocked command (map (λ file. file.path) files) ≡ Some path)

-- a file that is also a directory, or has something below: it was seen as a file, and counts as a directory
abbrev pub change_of : SeenFile → ChangedInput
change_of file = record {
  path = file.path;
  first = record { look = File file.stamp file.executable; digest = None };
  second = record { look = Dir; digest = None };
}

-- the refusal of such a file
abbrev pub change_above : SeenFile → GatherFault
change_above file = InputChanged (change_of file)

-- the refusal of the file at this place
abbrev pub IsUpper : List SeenFile → Option ℕ → GatherFault → Type 0
IsUpper files place fault = (at : ℕ) × (file : SeenFile) × (place ≡ Some at) × (slice_get files at ≡ Some file) × (fault ≡ change_above file)

-- each refusal only for its cause: a file above another one is told before one at or above a directory, and both before what is blocked
abbrev pub BlamesWay : Command → List SeenFile → List (List ℕ) → List (List ℕ) → GatherFault → Type 0
BlamesWay command files paths dirs (InputChanged change) =
    IsUpper files (option_or (upper_among paths paths) (over_among paths dirs)) (InputChanged change)
BlamesWay command files paths dirs (Blocked path) = (upper_among paths paths ≡ None) × (over_among paths dirs ≡ None) × (blocked command paths ≡ Some path)
BlamesWay command files paths dirs (InputMissing path) = ⊥
BlamesWay command files paths dirs (SourceFault path) = ⊥
BlamesWay command files paths dirs (TooLarge limit n path) = ⊥
BlamesWay command files paths dirs (NotRemotable cause) = ⊥
BlamesWay command files paths dirs NoMemory = Unit {0}
