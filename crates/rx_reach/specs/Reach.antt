-- The files that a compile command can reach, whichever branches of its conditionals are taken.
use Rattle.std.specs.Prelude.{◌≡◌, ◌≤◌, ◌↔◌, ℕ, ◌⊎◌, ◌&&◌, ◌||◌, Bool, true, false, List, [], ◌∷◌, Option, None, Some, All, Contains, map, length}
use Rattle.std.specs.Cmp.Lexicographic.{slice_cmp}
use Rattle.std.specs.Ordering.{is_lt, nat_cmp}
use Rattle.rx_world.specs.declared.input_files.InputFile.{InputFile}
use Rattle.rx_world.specs.declared.looks.Look.TheVariants.{File}
use Rattle.rx_world.specs.Sources.{is_file}
use Rattle.rx_reach.specs.declared.reach.Reached.{Reached}
use Rattle.rx_reach.specs.declared.searches.Search.{Search}
use Rattle.rx_reach.specs.Candidates.{Finds, IsOutside, Leaves, MeetsOther, Try, is_other}
use Rattle.rx_reach.specs.Scenes.{Scene}
use Rattle.rx_reach.specs.Searches.{first_tries, includes_of, tries_in}

-- ---- reached files

-- an existing candidate of one of these
abbrev pub IsFound : Scene → List Try → List ℕ → Type 0
IsFound scene tries path = (t : Try) × Contains tries t × Finds scene t path

-- the source, or an existing candidate of a forced file or of a path that a word names
abbrev pub IsFirst : Scene → Search → List ℕ → Type 0
IsFirst scene search path = ((path ≡ search.source) × (is_file (scene.look path) ≡ true)) ⊎ IsFound scene (first_tries search) path

-- A list of files leads to the path, the last of them first: each next one is an existing candidate of an include of the one before.
abbrev pub LeadsTo : Scene → Search → List (List ℕ) → List ℕ → Type 0
LeadsTo scene search [] path = IsFirst scene search path
LeadsTo scene search (before ∷ others) path = LeadsTo scene search others before × IsFound scene (tries_in search scene before) path

abbrev pub IsReached : Scene → Search → List ℕ → Type 0
IsReached scene search path = (files : List (List ℕ)) × LeadsTo scene search files path

-- ---- what makes a command hard

-- the candidates that are sought: those of forced files, of paths that words name, and of the includes of reached files
abbrev pub IsSought : Scene → Search → Try → Type 0
IsSought scene search t = Contains (first_tries search) t ⊎ ((file : List ℕ) × IsReached scene search file × Contains (tries_in search scene file) t)

-- The directives of a file may not be all, or it has a raw literal that C doesn't know.
abbrev pub has_hidden : Scene → Search → List ℕ → Bool
has_hidden scene search file = (includes_of scene file).hard || (search.is_c && (includes_of scene file).raw)

abbrev pub IsAnyOutside : List Try → Type 0
IsAnyOutside tries = (t : Try) × Contains tries t × IsOutside t

-- A path that makes the command hard: a reached file that may hide includes or names one outside of the root, the source where a
-- forced file's name is outside, and whatever stands at a candidate's place or on its way that is neither file nor directory.
abbrev pub IsHard : Scene → Search → List ℕ → Type 0
IsHard scene search path =
    (IsReached scene search path × ((has_hidden scene search path ≡ true) ⊎ IsAnyOutside (tries_in search scene path)))
    ⊎ ((path ≡ search.source) × ((is_other (scene.look path) ≡ true) ⊎ IsAnyOutside (first_tries search)))
    ⊎ ((t : Try) × IsSought scene search t × MeetsOther scene t path)

-- the least of the paths of which this holds, where there is one
abbrev pub IsLeastPath : (List ℕ → Type 0) → Option (List ℕ) → Type 0
IsLeastPath P None = (path : List ℕ) → P path → ⊥
IsLeastPath P (Some least) = P least × ((path : List ℕ) → P path → is_lt (slice_cmp nat_cmp path least) ≡ false)

-- ---- what a scan of includes gives

-- an existing directory that a candidate's name leaves again
abbrev pub IsLeft : Scene → Search → List ℕ → Type 0
IsLeft scene search path = (t : Try) × IsSought scene search t × Leaves scene t path

-- the file is what the scene has at its path
abbrev pub IsFileOf : Scene → InputFile → Type 0
IsFileOf scene file = scene.look file.path ≡ File file.stamp file.executable

-- Nothing was left out: all reached files are there, each path that makes hard was judged, and each directory that is left.
pub record IsWhole (scene : Scene) (search : Search) (reached : Reached) : Type 0 where
  pub files : (path : List ℕ) → Contains (map (λ file. file.path) reached.files) path ↔ IsReached scene search path
  pub hard : IsLeastPath (IsHard scene search) reached.hard
  pub left : (path : List ℕ) → Contains reached.left path ↔ IsLeft scene search path

-- the most files of a scanned tree
abbrev pub most_tree_files : ℕ
most_tree_files = 20000

-- The reached files, sorted by path; the whole of them where they are no more than may be.
pub record IsReach (most : ℕ) (scene : Scene) (search : Search) (reached : Reached) : Type 0 where
  pub each : All (IsFileOf scene) reached.files
  pub reaches : All (λ file. IsReached scene search file.path) reached.files
  pub whole : length reached.files ≤ most → IsWhole scene search reached
