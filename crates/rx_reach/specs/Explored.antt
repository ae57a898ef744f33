-- A scan of includes between two files: what was found so far is right, and what was read so far is closed.
use Rattle.std.specs.Prelude.{◌≡◌, ◌⊎◌, ◌+◌, ℕ, Bool, true, false, List, [], All, Contains, Some, length}
use Rattle.rx_base.specs.Digests.{digest_of}
use Rattle.rx_world.specs.declared.input_files.InputFile.{InputFile}
use Rattle.rx_world.specs.declared.looks.Look.{Look}
use Rattle.rx_world.specs.declared.looks.Look.TheVariants.{File}
use Rattle.rx_world.specs.declared.looks.Stamp.{Stamp}
use Rattle.rx_reach.specs.declared.progress.Progress.{Progress}
use Rattle.rx_reach.specs.declared.searches.Search.{Search}
use Rattle.rx_reach.specs.FileTables.{paths_of}
use Rattle.rx_reach.specs.Progress.{IsHardIn, IsKnown, IsLeftBy}
use Rattle.rx_reach.specs.Reach.{IsFileOf, IsFirst, IsFound, IsHard, IsLeft, IsReached}
use Rattle.rx_reach.specs.Scenes.{Scene}
use Rattle.rx_reach.specs.Searches.{first_tries, tries_in}
use Rattle.rx_reach.specs.Sights.{seen_at}
use Rattle.rx_reach.specs.Visits.{IsHardFirst}

pub record Explored (scene : Scene) (search : Search) (p : Progress) : Type 0 where
  pub reached : (path : List ℕ) → IsKnown p path → IsReached scene search path
  pub first : (path : List ℕ) → IsFirst scene search path → IsKnown p path
  pub closed : (file path : List ℕ) → Contains (paths_of p.read) file → IsFound scene (tries_in search scene file) path → IsKnown p path
  pub files : (file : InputFile) → Contains p.read file → IsFileOf scene file
  pub hard_only : (path : List ℕ) → Contains p.hard path → IsHard scene search path
  pub hard_first : (path : List ℕ) → IsHardFirst scene search path → Contains p.hard path
  pub hard_files : (file path : List ℕ) → Contains (paths_of p.read) file → IsHardIn scene search file path → Contains p.hard path
  pub left_only : (path : List ℕ) → Contains p.left path → IsLeft scene search path
  pub left_first : (path : List ℕ) → IsLeftBy scene (first_tries search) path → Contains p.left path
  pub left_files : (file path : List ℕ) → Contains (paths_of p.read) file → IsLeftBy scene (tries_in search scene file) path → Contains p.left path

-- Where there was a next file, it is read now; else nothing waits.
abbrev pub GoesOn : Scene → Search → Bool → Progress → Progress → Type 0
GoesOn scene search true old new = Explored scene search new × (length new.read ≡ length old.read + 1)
GoesOn scene search false old new = Explored scene search new × (new.waiting ≡ [])

-- nothing waits any more, or so many files more were read
abbrev pub Advances : Scene → Search → ℕ → Progress → Progress → Type 0
Advances scene search count old new = Explored scene search new × ((new.waiting ≡ []) ⊎ (length new.read ≡ length old.read + count))

-- the whole was explored, or so many files were read
abbrev pub IsExplored : Scene → Search → ℕ → Progress → Type 0
IsExplored scene search count progress = Explored scene search progress × ((progress.waiting ≡ []) ⊎ (length progress.read ≡ count))

-- each file is what was seen at its path
abbrev pub AreSeen : List (List ℕ × Look) → List InputFile → Type 0
AreSeen sights files = All (λ file. seen_at sights file.path ≡ Some (File file.stamp file.executable)) files

-- the digest of each file is that of what a file with its stamp holds
abbrev pub HaveDigests : (List ℕ → Stamp → List ℕ) → List InputFile → Type 0
HaveDigests content files = All (λ file. file.digest ≡ digest_of (content file.path file.stamp)) files
