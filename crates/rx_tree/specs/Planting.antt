-- Entries in the order in which a tree is built from them.
use Rattle.std.specs.Prelude.{◌≡◌, ℕ, Bool, true, false, List, [], ◌∷◌, ◌++◌, Option, Ok, drop, option_map, IsSome}
use Rattle.std.specs.Borrow.{Bor}
use Rattle.std.specs.List.{AllByRecursion, prefix_len}
use Rattle.std.specs.Ordering.{is_lt}
use Rattle.std.specs.Str.{bytes_eq}
use Rattle.rx_messages.specs.Directories.{directory_is_readable}
use Rattle.rx_messages.specs.declared.directories.Directory.{Directory}
use Rattle.rx_world.specs.declared.input_files.InputFile.{InputFile}
use Rattle.rx_tree.specs.Entries.{Content, Entry, content_of, names_of}
use Rattle.rx_tree.specs.Places.{by_names}
use Rattle.rx_tree.specs.Trees.{Tree, End, File, Dir, Rest, directory_nodes, file_nodes, tree_bytes}
use Rattle.rx_tree.specs.Walks.{read_directory}

-- The second entry may stand behind the first: its names don't come earlier, and neither is a file at or above the other.
pub record Follows (first second : Rest) : Type 0 where
  pub later : is_lt (by_names second.names first.names) ≡ false
  pub not_below : IsSome first.file → (more : List (List ℕ)) → second.names ≡ first.names ++ more → ⊥
  pub not_same : IsSome second.file → first.names ≡ second.names → ⊥

-- Each may stand behind all before it.
abbrev pub IsReady : List Rest → Type 0
IsReady [] = Unit {0}
IsReady (rest ∷ rests) = AllByRecursion (Follows rest) rests × IsReady rests

-- ---- Directories that are read again

-- the Directory with what is in a tree
abbrev pub directory_of : Tree → Directory
directory_of t = record { files = file_nodes t; directories = directory_nodes t; symlinks = [] }

-- a Directory that may be written is read again from its bytes
abbrev pub ReadsAgain : Tree → Type 0
ReadsAgain t = directory_is_readable (directory_of t) → read_directory (tree_bytes t) ≡ Ok (directory_of t)

-- so is each one below
abbrev pub ReadsAgainBelow : Tree → Type 0
ReadsAgainBelow End = Unit {0}
ReadsAgainBelow (File n c t) = ReadsAgainBelow t
ReadsAgainBelow (Dir n s t) = ReadsAgain s × ReadsAgainBelow s × ReadsAgainBelow t

-- ---- runs of entries

-- whether two entries go on by one name, or neither goes on
abbrev pub goes_alike : List (List ℕ) → List (List ℕ) → Bool
goes_alike [] [] = true
goes_alike [] (name ∷ names) = false
goes_alike (name ∷ names) [] = false
goes_alike (name ∷ names) (other ∷ others) = bytes_eq name other

-- what these borrowed files hold
abbrev pub contents : Option (Bor InputFile) → Option Content
contents file = option_map (λ (f : Bor InputFile). content_of f.now) file

-- the entries in front that go on alike with the first
abbrev pub run_length : ℕ → Entry → List Entry → ℕ
run_length depth first entries = prefix_len (λ (entry : Entry). goes_alike (drop depth (names_of first.path)) (drop depth (names_of entry.path))) entries
