-- Files that are read one after the other, and what is known then.
use Rattle.std.specs.Prelude.{◌≡◌, ◌↔◌, ◌⊎◌, ◌+◌, ℕ, true, List, Contains, length}
use Rattle.rx_world.specs.declared.input_files.InputFile.{InputFile}
use Rattle.rx_reach.specs.declared.progress.Progress.{Progress}
use Rattle.rx_reach.specs.declared.searches.Search.{Search}
use Rattle.rx_reach.specs.Candidates.{is_other}
use Rattle.rx_reach.specs.Progress.{IsHardBy, IsHardIn, IsKnown, IsLeftBy}
use Rattle.rx_reach.specs.Reach.{IsFileOf, IsFirst, IsFound}
use Rattle.rx_reach.specs.Scenes.{Scene}
use Rattle.rx_reach.specs.Searches.{first_tries, tries_in}

-- what makes a path hard before any file is read
abbrev pub IsHardFirst : Scene → Search → List ℕ → Type 0
IsHardFirst scene search path = ((path ≡ search.source) × (is_other (scene.look path) ≡ true)) ⊎ IsHardBy scene search.source (first_tries search) path

-- the source and the forced files were found, and nothing else
pub record Begins (scene : Scene) (search : Search) (progress : Progress) : Type 0 where
  pub known : (path : List ℕ) → IsKnown progress path ↔ IsFirst scene search path
  pub hard : (path : List ℕ) → Contains progress.hard path ↔ IsHardFirst scene search path
  pub left : (path : List ℕ) → Contains progress.left path ↔ IsLeftBy scene (first_tries search) path

-- one file more was read, and all that its includes find was added
pub record Visits (scene : Scene) (search : Search) (file : InputFile) (old new : Progress) : Type 0 where
  pub file_is : IsFileOf scene file
  pub read : (other : InputFile) → Contains new.read other ↔ ((other ≡ file) ⊎ Contains old.read other)
  pub known : (path : List ℕ) → IsKnown new path ↔ (IsKnown old path ⊎ IsFound scene (tries_in search scene file.path) path)
  pub hard : (path : List ℕ) → Contains new.hard path ↔ (Contains old.hard path ⊎ IsHardIn scene search file.path path)
  pub left : (path : List ℕ) → Contains new.left path ↔ (Contains old.left path ⊎ IsLeftBy scene (tries_in search scene file.path) path)

-- the file at a path that waited no longer was read, and all that its includes find was added
pub record VisitsAt (scene : Scene) (search : Search) (path : List ℕ) (old new : Progress) : Type 0 where
  pub file : InputFile
  pub path_is : file.path ≡ path
  pub file_is : IsFileOf scene file
  pub read : (other : InputFile) → Contains new.read other ↔ ((other ≡ file) ⊎ Contains old.read other)
  pub known : (other : List ℕ) → IsKnown new other ↔ ((IsKnown old other ⊎ (other ≡ path)) ⊎ IsFound scene (tries_in search scene path) other)
  pub hard : (other : List ℕ) → Contains new.hard other ↔ (Contains old.hard other ⊎ IsHardIn scene search path other)
  pub left : (other : List ℕ) → Contains new.left other ↔ (Contains old.left other ⊎ IsLeftBy scene (tries_in search scene path) other)
  pub count : length new.read ≡ length old.read + 1
