-- Which lists of paths have a tree, and what is told of the others.
use Rattle.std.specs.Prelude.{◌≡◌, ◌<◌, ◌≤◌, ℕ, Bool, true, false, ◌&&◌, ◌||◌, List, length, Result, Ok, Err, is_some, is_none}
use Rattle.std.specs.declared.cmp.Ordering.{Ordering}
use Rattle.std.specs.List.{Contains, count_by}
use Rattle.std.specs.Ordering.{nat_cmp, is_lt, ordering_then}
use Rattle.std.specs.Cmp.Lexicographic.{slice_cmp}
use Rattle.std.specs.Str.{bytes_eq}
use Rattle.rx_base.specs.Paths.{is_below}
use Rattle.rx_tree.specs.declared.tree_fault.TreeFault.{TreeFault}
use Rattle.rx_tree.specs.declared.tree_fault.TreeFault.TheVariants.{TooManyFiles, DuplicatePath, FileUnderFile, MissingBlob, NotCanonical, NoMemory}
use Rattle.rx_world.specs.declared.input_files.InputFile.{InputFile}
use Rattle.rx_tree.specs.Entries.{Entry, entries_of}

-- the most files of a tree
abbrev pub most_files : ℕ
most_files = 50000

-- whether the entry is a file with this path
abbrev pub is_file_at : List ℕ → Entry → Bool
is_file_at path entry = is_some entry.file && bytes_eq entry.path path

-- whether both are files and have one path
abbrev pub is_same_file : Entry → Entry → Bool
is_same_file x y = is_some x.file && (is_some y.file && bytes_eq x.path y.path)

-- whether the entry lies below a path, or is a directory and has the path
abbrev pub stands_under : List ℕ → Entry → Bool
stands_under path entry = is_below entry.path path || (is_none entry.file && bytes_eq entry.path path)

-- whether the first is a file, and the second stands under its path
abbrev pub is_under : Entry → Entry → Bool
is_under file entry = is_some file.file && stands_under file.path entry

-- more than one file has this path
abbrev pub IsTwice : List Entry → List ℕ → Type 0
IsTwice entries path = 1 < count_by (is_file_at path) entries

-- an entry with the second path stands under a file with the first
pub record IsClash (entries : List Entry) (paths : List ℕ × List ℕ) : Type 0 where
  pub file : Entry
  pub below : Entry
  pub has_file : Contains entries file
  pub has_below : Contains entries below
  pub under : is_under file below ≡ true
  pub file_path : file.path ≡ paths.0
  pub below_path : below.path ≡ paths.1

-- paths by their bytes, and pairs of paths by the first and then the second
abbrev pub by_bytes : List ℕ → List ℕ → Ordering
by_bytes p q = slice_cmp nat_cmp p q

abbrev pub by_pair : List ℕ × List ℕ → List ℕ × List ℕ → Ordering
by_pair p q = ordering_then (by_bytes p.0 q.0) (by_bytes p.1 q.1)

-- the fact holds of it, and of nothing that is less
abbrev pub IsLeast : {K : Type 0} → (K → K → Ordering) → (K → Type 0) → K → Type 0
IsLeast {K} compare Fact least = Fact least × ((other : K) → Fact other → is_lt (compare other least) ≡ false)

-- no path comes twice, and nothing stands under a file
pub record IsApart (entries : List Entry) : Type 0 where
  pub once : (path : List ℕ) → IsTwice entries path → ⊥
  pub apart : (paths : List ℕ × List ℕ) → IsClash entries paths → ⊥

-- nothing of the list is to be refused
pub record CanBeBuilt (files : List InputFile) (dirs : List (List ℕ)) : Type 0 where
  pub few : length files ≤ most_files
  pub apart : IsApart (entries_of files dirs)

-- What a call says of a list of paths: the first refusal of this order that holds, or none where none does.
abbrev pub Judges : {A : Type 0} → List InputFile → List (List ℕ) → Result A TreeFault → Type 0
Judges files dirs (Ok x) = (length files ≤ most_files) × IsApart (entries_of files dirs)
Judges files dirs (Err TooManyFiles) = most_files < length files
Judges files dirs (Err (DuplicatePath path)) = (length files ≤ most_files) × IsLeast by_bytes (IsTwice (entries_of files dirs)) path
Judges files dirs (Err (FileUnderFile file below)) =
    (length files ≤ most_files) × ((path : List ℕ) → IsTwice (entries_of files dirs) path → ⊥)
    × IsLeast by_pair (IsClash (entries_of files dirs)) (file, below)
Judges files dirs (Err (MissingBlob digest)) = ⊥
Judges files dirs (Err (NotCanonical digest)) = ⊥
Judges files dirs (Err NoMemory) = Unit {0}
