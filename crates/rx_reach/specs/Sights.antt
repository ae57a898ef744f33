-- What one scan saw: the first look at each path, and why it ended early.
use Rattle.std.specs.Prelude.{◌≡◌, ◌≢◌, ◌⊎◌, ℕ, true, List, [], ◌∷◌, Option, None, Some, All, Contains, map, if◌then◌else◌}
use Rattle.std.specs.BTreeMap.{is_at}
use Rattle.std.specs.Cmp.Lexicographic.{slice_cmp}
use Rattle.std.specs.Map.{lookup}
use Rattle.std.specs.Option.{option_or}
use Rattle.std.specs.Ordering.{nat_cmp}
use Rattle.std.specs.Str.{bytes_eq}
use Rattle.rx_base.specs.Paths.{is_below}
use Rattle.rx_world.specs.declared.looks.Look.{Look}
use Rattle.rx_world.specs.declared.looks.Look.TheVariants.{Absent, Dir}
use Rattle.rx_world.specs.declared.looks.ChangedInput.{ChangedInput}
use Rattle.rx_world.specs.declared.sources.Found.{Found}
use Rattle.rx_world.specs.declared.sources.Given.{Given}
use Rattle.rx_world.specs.Causes.{Rose}
use Rattle.rx_world.specs.Sources.{is_file}
use Rattle.rx_reach.specs.declared.faults.SightFault.{SightFault}
use Rattle.rx_reach.specs.declared.faults.SightFault.TheVariants.{InputChanged, NoMemory, SourceFault}

-- an answer about a path
abbrev pub answer_of : List ℕ → Look → Option (List ℕ) → Given
answer_of path look bytes = record { path = path; look = look; bytes = bytes }

-- an entry of what was seen, and the entries of a list of such
abbrev pub found_of : List ℕ × Look → Found
found_of entry = record { path = entry.0; look = entry.1 }

abbrev pub sights_of : List Found → List (List ℕ × Look)
sights_of view = map (λ found. (found.path, found.look)) view

-- the look that was seen at a path
abbrev pub seen_at : List (List ℕ × Look) → List ℕ → Option Look
seen_at sights path = lookup (is_at (slice_cmp nat_cmp path)) sights

-- the look of the first of these answers that is about the path
abbrev pub first_at : List ℕ → List Given → Option Look
first_at path [] = None
first_at path (answer ∷ answers) = if bytes_eq answer.path path then Some answer.look else first_at path answers

-- something was seen at the path, or that nothing is there
abbrev pub IsKnownAt : List (List ℕ × Look) → List ℕ → Type 0
IsKnownAt sights path = (look : Look) × (seen_at sights path ≡ Some look)

-- so it is at each of these paths
abbrev pub AreKnownAt : List (List ℕ × Look) → List (List ℕ) → Type 0
AreKnownAt sights paths = All (IsKnownAt sights) paths

-- what was seen first at the path: before, or else in these answers
abbrev pub first_seen : List (List ℕ × Look) → List Given → List ℕ → Option Look
first_seen sights answers path = option_or (seen_at sights path) (first_at path answers)

-- The sights after some answers: of a path that wasn't seen before, the first of them; and no answer differs from what was seen.
pub record Notes (old new : List (List ℕ × Look)) (answers : List Given) : Type 0 where
  pub first : (path : List ℕ) → seen_at new path ≡ first_seen old answers path
  pub same : All (λ answer. seen_at new answer.path ≡ Some answer.look) answers

-- one of these answers says so of the path
abbrev pub IsAnswered : List Given → List ℕ → Look → Type 0
IsAnswered answers path look = (answer : Given) × Contains answers answer × (answer.path ≡ path) × (answer.look ≡ look)

-- the path was seen so, before or in one of these answers
abbrev pub WasSeen : List (List ℕ × Look) → List Given → List ℕ → Look → Type 0
WasSeen sights answers path look = (seen_at sights path ≡ Some look) ⊎ IsAnswered answers path look

-- something was seen below the path
abbrev pub HasBelow : List (List ℕ × Look) → List Given → List ℕ → Type 0
HasBelow sights answers path =
    (below : List ℕ) × (look : Look) × (is_below below path ≡ true) × (look ≢ Absent) × WasSeen sights answers below look

-- the first value is the first look at the path
pub record BeginsWith (sights : List (List ℕ × Look)) (answers : List Given) (change : ChangedInput) : Type 0 where
  pub first_is : first_seen sights answers change.path ≡ Some change.first.look
  pub first_alone : change.first.digest ≡ None
  pub second_alone : change.second.digest ≡ None

-- a later answer has another look
abbrev pub HasOther : List Given → ChangedInput → Type 0
HasOther answers change = IsAnswered answers change.path change.second.look × (change.first.look ≢ change.second.look)

-- the file counts as a directory, since something was seen below it
abbrev pub IsFileAbove : List (List ℕ × Look) → List Given → ChangedInput → Type 0
IsFileAbove sights answers change =
    (is_file change.first.look ≡ true) × (change.second.look ≡ Dir) × HasBelow sights answers change.path

-- two looks that differ, the first look at the path first
abbrev pub HaveDiffered : List (List ℕ × Look) → List Given → ChangedInput → Type 0
HaveDiffered sights answers change = BeginsWith sights answers change × HasOther answers change

-- two looks that differ, or a file that counts as a directory; the first look at the path is first
abbrev pub IsChangeFrom : List (List ℕ × Look) → List Given → ChangedInput → Type 0
IsChangeFrom sights answers change = BeginsWith sights answers change × (HasOther answers change ⊎ IsFileAbove sights answers change)

-- each fault only for its cause
abbrev pub Blames : List (List ℕ × Look) → List Given → ℕ → ℕ → SightFault → Type 0
Blames sights answers before now (SourceFault path) = Rose before now
Blames sights answers before now (InputChanged change) = HaveDiffered sights answers change
Blames sights answers before now NoMemory = Unit {0}
