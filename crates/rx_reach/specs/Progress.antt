-- What a scan of includes has found so far.
use Rattle.std.specs.Prelude.{◌≡◌, ◌↔◌, ◌⊎◌, ℕ, Bool, true, List, Contains}
use Rattle.rx_world.specs.declared.looks.Look.{Look}
use Rattle.rx_world.specs.Sources.{is_file}
use Rattle.rx_reach.specs.declared.tries.Candidate.TheVariants as candidate
use Rattle.rx_reach.specs.declared.tries.Tried.{Tried}
use Rattle.rx_reach.specs.declared.progress.Progress.{Progress}
use Rattle.rx_reach.specs.declared.searches.Search.{Search}
use Rattle.rx_reach.specs.Candidates.{Leaves, MeetsOther, Try, is_other}
use Rattle.rx_reach.specs.FileTables.{paths_of}
use Rattle.rx_reach.specs.Reach.{IsAnyOutside, IsFound, has_hidden}
use Rattle.rx_reach.specs.Scenes.{Scene}
use Rattle.rx_reach.specs.Searches.{tries_in}
use Rattle.rx_reach.specs.Sights.{AreKnownAt, IsKnownAt}

-- the file was found: it waits, or it was read
abbrev pub IsKnown : Progress → List ℕ → Type 0
IsKnown progress path = Contains progress.waiting path ⊎ Contains (paths_of progress.read) path

-- no file that waits was read
abbrev pub AreApart : Progress → Type 0
AreApart progress = (path : List ℕ) → Contains progress.waiting path → Contains (paths_of progress.read) path → ⊥

-- nothing was read, and what waits was not
pub record Stays (old new : Progress) : Type 0 where
  pub read_is : new.read ≡ old.read
  pub apart : AreApart old → AreApart new

-- a file was found
pub record Finds (old new : Progress) (path : List ℕ) : Type 0 where
  pub known : (other : List ℕ) → IsKnown new other ↔ (IsKnown old other ⊎ (other ≡ path))
  pub hard_is : new.hard ≡ old.hard
  pub left_is : new.left ≡ old.left

-- what a try found was added; a name that leads outside makes the blamed path hard
pub record Takes (blamed : List ℕ) (tried : Tried) (old new : Progress) : Type 0 where
  pub known : (path : List ℕ) → IsKnown new path ↔ (IsKnown old path ⊎ (tried.candidate ≡ candidate.Found path))
  pub hard : (path : List ℕ) → Contains new.hard path
      ↔ (Contains old.hard path ⊎ (((path ≡ blamed) × (tried.candidate ≡ candidate.Outside)) ⊎ (tried.candidate ≡ candidate.Other path)))
  pub left : (path : List ℕ) → Contains new.left path ↔ (Contains old.left path ⊎ Contains tried.left path)

-- the source was found where it is a file, and is hard where it is neither file nor directory
pub record TakesSource (source : List ℕ) (look : Look) (old new : Progress) : Type 0 where
  pub known : (path : List ℕ) → IsKnown new path ↔ (IsKnown old path ⊎ ((path ≡ source) × (is_file look ≡ true)))
  pub hard : (path : List ℕ) → Contains new.hard path ↔ (Contains old.hard path ⊎ ((path ≡ source) × (is_other look ≡ true)))
  pub left_is : new.left ≡ old.left

-- what makes a path hard in these tries
abbrev pub IsHardBy : Scene → List ℕ → List Try → List ℕ → Type 0
IsHardBy scene blamed tries path = ((path ≡ blamed) × IsAnyOutside tries) ⊎ ((t : Try) × Contains tries t × MeetsOther scene t path)

abbrev pub IsLeftBy : Scene → List Try → List ℕ → Type 0
IsLeftBy scene tries path = (t : Try) × Contains tries t × Leaves scene t path

-- what all these tries find was added
pub record Seeks (scene : Scene) (blamed : List ℕ) (tries : List Try) (old new : Progress) : Type 0 where
  pub known : (path : List ℕ) → IsKnown new path ↔ (IsKnown old path ⊎ IsFound scene tries path)
  pub hard : (path : List ℕ) → Contains new.hard path ↔ (Contains old.hard path ⊎ IsHardBy scene blamed tries path)
  pub left : (path : List ℕ) → Contains new.left path ↔ (Contains old.left path ⊎ IsLeftBy scene tries path)

-- a file that may hide includes makes itself hard, and nothing else changed
pub record Marks (path : List ℕ) (hidden : Bool) (old new : Progress) : Type 0 where
  pub waiting_is : new.waiting ≡ old.waiting
  pub read_is : new.read ≡ old.read
  pub left_is : new.left ≡ old.left
  pub hard : (other : List ℕ) → Contains new.hard other ↔ (Contains old.hard other ⊎ ((other ≡ path) × (hidden ≡ true)))

-- what makes a path hard in a file that is reached
abbrev pub IsHardIn : Scene → Search → List ℕ → List ℕ → Type 0
IsHardIn scene search file path = ((path ≡ file) × (has_hidden scene search file ≡ true)) ⊎ IsHardBy scene file (tries_in search scene file) path

-- all that a file's includes find was added
pub record Explores (scene : Scene) (search : Search) (file : List ℕ) (old new : Progress) : Type 0 where
  pub known : (path : List ℕ) → IsKnown new path ↔ (IsKnown old path ⊎ IsFound scene (tries_in search scene file) path)
  pub hard : (path : List ℕ) → Contains new.hard path ↔ (Contains old.hard path ⊎ IsHardIn scene search file path)
  pub left : (path : List ℕ) → Contains new.left path ↔ (Contains old.left path ⊎ IsLeftBy scene (tries_in search scene file) path)

-- Where the path to blame was looked at, and each path that made the command hard before, each was that makes it hard now.
abbrev pub KeepsKnown : List (List ℕ × Look) → List (List ℕ × Look) → List ℕ → Progress → Progress → Type 0
KeepsKnown before now blamed old new = IsKnownAt before blamed → AreKnownAt before old.hard → AreKnownAt now new.hard
