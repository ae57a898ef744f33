-- What a source tree tells.
use Rattle.std.specs.Prelude.{◌≡◌, ℕ, ◌+◌, ◌||◌, Bool, true, false, List, [], ◌∷◌, ◌++◌, Option, None, Some, All, IfSome, IsSome, filter, map, take, if◌then◌else◌}
use Rattle.std.specs.Str.{bytes_eq}
use Rattle.rx_base.specs.Paths.{is_below}
use Rattle.rx_base.specs.Told.{Told}
use Rattle.rx_world.specs.declared.looks.Look.{Look}
use Rattle.rx_world.specs.declared.looks.Look.TheVariants.{Absent, File, Dir, Other}
use Rattle.rx_world.specs.declared.looks.Stamp.{Stamp}
use Rattle.rx_world.specs.declared.sources.Found.{Found}
use Rattle.rx_world.specs.declared.sources.Given.{Given}
use Rattle.rx_world.specs.declared.sources.SourceEntry.{SourceEntry}
use Rattle.rx_world.specs.Files.{first_placed_by}

-- the answers of a look, a read and a list
abbrev pub given_look : List ℕ → Look → Given
given_look path look = record { path = path; look = look; bytes = None }

abbrev pub given_bytes : List ℕ → Look → List ℕ → Given
given_bytes path look bytes = record { path = path; look = look; bytes = Some bytes }

abbrev pub given_all : List Found → List Given
given_all found = map (λ f. given_look f.path f.look) found

-- the answers are added to those that are told
abbrev pub Adds : Option (List Given) → Option (List Given) → List Given → Type 0
Adds old new answers = Told old new (λ x y. y ≡ x ++ answers)

-- what the list has at a path
abbrev pub entry_at : List ℕ → List SourceEntry → SourceEntry
entry_at path [] = record { path = path; look = Absent; bytes = [] }
entry_at path (entry ∷ entries) = if bytes_eq entry.path path then entry else entry_at path entries

-- a look is the one of the list
abbrev pub Looks : Option (List SourceEntry) → List ℕ → Look → Type 0
Looks listed path look = IfSome listed (λ entries. look ≡ (entry_at path entries).look)

-- a read is the one of the list
pub record IsRead (entries : List SourceEntry) (path : List ℕ) (look : Look) (bytes : List ℕ) : Type 0 where
  pub look_is : look ≡ (entry_at path entries).look
  pub bytes_are : bytes ≡ (entry_at path entries).bytes

abbrev pub Reads : Option (List SourceEntry) → List ℕ → Look → List ℕ → Type 0
Reads listed path look bytes = IfSome listed (λ entries. IsRead entries path look bytes)

-- only a file has bytes
abbrev pub HasBytes : Look → List ℕ → Type 0
HasBytes (File stamp executable) bytes = Unit {0}
HasBytes Absent bytes = bytes ≡ []
HasBytes Dir bytes = bytes ≡ []
HasBytes Other bytes = bytes ≡ []

-- a file's bytes are those that the world has under its stamp
abbrev pub GivesContent : (List ℕ → Stamp → List ℕ) → List ℕ → Look → List ℕ → Type 0
GivesContent content path (File stamp executable) bytes = bytes ≡ content path stamp
GivesContent content path Absent bytes = Unit {0}
GivesContent content path Dir bytes = Unit {0}
GivesContent content path Other bytes = Unit {0}

-- each file of the list holds what the world has under its stamp
abbrev pub HoldContent : (List ℕ → Stamp → List ℕ) → List SourceEntry → Type 0
HoldContent content entries = All (λ entry. GivesContent content entry.path entry.look entry.bytes) entries

abbrev pub is_file : Look → Bool
is_file (File stamp executable) = true
is_file Absent = false
is_file Dir = false
is_file Other = false

-- the files of the list at or below a path, in the order of their paths; of two entries at one path the first counts
abbrev pub files_under : List ℕ → List SourceEntry → List SourceEntry
files_under under entries =
    filter (λ entry. is_below entry.path under || bytes_eq entry.path under)
    (filter (λ entry. is_file entry.look) (first_placed_by (λ entry. entry.path) entries))

-- a list is that of these files, up to one more than so many
abbrev pub Lists : Option (List SourceEntry) → List ℕ → ℕ → List Found → Type 0
Lists listed under most found =
    IfSome listed (λ entries. found ≡ map (λ entry. record { path = entry.path; look = entry.look }) (take (most + 1) (files_under under entries)))

-- the list is told, and calls keep it
pub record IsSteady (listed : Option (List SourceEntry)) (keeps : Type 0) : Type 0 where
  pub told : IsSome listed
  pub kept : keeps
