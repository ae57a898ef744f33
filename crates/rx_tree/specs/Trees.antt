-- The tree of a list of paths, by recursion on the list, and its Directory messages (remote_execution.proto, Directory).
use Rattle.std.specs.Prelude.{ℕ, zero, suc, List, [], ◌∷◌, ◌++◌, length, map, max, Option, Some, None, drop, if◌then◌else◌}
use Rattle.std.specs.List.{flat_map}
use Rattle.std.specs.Str.{bytes_eq}
use Rattle.rx_base.specs.Digests.{digest_of}
use Rattle.rx_base.specs.SortedPaths.{sorted_paths}
use Rattle.rx_base.specs.declared.digests.Digest.{Digest}
use Rattle.rx_messages.specs.Directories.{directory_bytes}
use Rattle.rx_messages.specs.declared.nodes.FileNode.{FileNode}
use Rattle.rx_messages.specs.declared.nodes.DirectoryNode.{DirectoryNode}
use Rattle.rx_tree.specs.Entries.{Content, Entry, names_of}

-- ---- a tree

-- What is in a directory, one name after the other: files, and directories with what is in them.
pub data Tree : Type 0 where
  End : Tree
  File : List ℕ → Content → Tree → Tree
  Dir : List ℕ → Tree → Tree → Tree

-- ---- the tree of a list of paths

-- an entry as seen from a directory: the names that lead on from it, and the file there, or none where it is a directory
pub record Rest : Type 0 where
  pub names : List (List ℕ)
  pub file : Option Content

-- the entries, after so many names
abbrev pub rests : ℕ → List Entry → List Rest
rests depth entries = map (λ (entry : Entry). record { names = drop depth (names_of entry.path); file = entry.file }) entries

-- the first name, where there is one
abbrev pub first_name : List (List ℕ) → List (List ℕ)
first_name [] = []
first_name (name ∷ names) = name ∷ []

-- the names that are directly in the directory, in order
abbrev pub names_in : List Rest → List (List ℕ)
names_in rests = sorted_paths (flat_map (λ (rest : Rest). first_name rest.names) rests)

-- the entry after its first name, if it is this one
abbrev pub after : List ℕ → Option Content → List (List ℕ) → List Rest
after name file [] = []
after name file (first ∷ names) = if bytes_eq first name then (record { names = names; file = file }) ∷ [] else []

-- the entries that lie at and below this name
abbrev pub within : List ℕ → List Rest → List Rest
within name rests = flat_map (λ (rest : Rest). after name rest.file rest.names) rests

-- the file of an entry without further names
abbrev pub file_at_end : List (List ℕ) → Option Content → Option Content
file_at_end [] file = file
file_at_end (name ∷ names) file = None

-- the first file of these
abbrev pub or_file : Option Content → Option Content → Option Content
or_file None other = other
or_file (Some file) other = Some file

-- the file that stands where these entries begin
abbrev pub file_here : List Rest → Option Content
file_here [] = None
file_here (rest ∷ rests) = or_file (file_at_end rest.names rest.file) (file_here rests)

-- a name with a file or, where there is none, with a directory
abbrev pub planted : List ℕ → Option Content → Tree → Tree → Tree
planted name (Some content) sub others = File name content others
planted name None sub others = Dir name sub others

abbrev pub forest : (List ℕ → Option Content) → (List ℕ → Tree) → List (List ℕ) → Tree
forest file sub [] = End
forest file sub (name ∷ names) = planted name (file name) (sub name) (forest file sub names)

-- The tree of entries that have at most so many names: each name that is directly in the directory, with its file or with
-- the tree of what lies below it.
abbrev pub tree_at : ℕ → List Rest → Tree
tree_at zero rests = End
tree_at (suc most) rests = forest (λ name. file_here (within name rests)) (λ name. tree_at most (within name rests)) (names_in rests)

-- the most names of an entry
abbrev pub levels : List Rest → ℕ
levels [] = 0
levels (rest ∷ rests) = max (length rest.names) (levels rests)

unfoldable pub tree_of : List Rest → Tree
tree_of rests = tree_at (levels rests) rests

-- the tree of a list of paths
abbrev pub tree : List Entry → Tree
tree entries = tree_of (rests 0 entries)

-- ---- its messages

abbrev pub file_node : List ℕ → Content → FileNode
file_node name content = record { name = name; digest = Some content.digest; is_executable = content.executable }

abbrev pub directory_node : List ℕ → Digest → DirectoryNode
directory_node name digest = record { name = name; digest = Some digest }

abbrev pub file_nodes : Tree → List FileNode
file_nodes End = []
file_nodes (File name content others) = file_node name content ∷ file_nodes others
file_nodes (Dir name sub others) = file_nodes others

abbrev pub bytes_with : List FileNode → List DirectoryNode → List ℕ
bytes_with files directories = directory_bytes (record { files = files; directories = directories; symlinks = [] })

abbrev pub directory_nodes : Tree → List DirectoryNode
directory_nodes End = []
directory_nodes (File name content others) = directory_nodes others
directory_nodes (Dir name sub others) =
    directory_node name (digest_of (bytes_with (file_nodes sub) (directory_nodes sub))) ∷ directory_nodes others

-- the bytes of the Directory with what is in the tree
abbrev pub tree_bytes : Tree → List ℕ
tree_bytes t = bytes_with (file_nodes t) (directory_nodes t)

-- the bytes of each Directory below, and of these and the tree's own
abbrev pub bytes_below : Tree → List (List ℕ)
bytes_below End = []
bytes_below (File name content others) = bytes_below others
bytes_below (Dir name sub others) = bytes_below sub ++ tree_bytes sub ∷ bytes_below others

abbrev pub all_bytes : Tree → List (List ℕ)
all_bytes t = bytes_below t ++ tree_bytes t ∷ []
