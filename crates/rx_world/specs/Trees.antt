-- Trees, and what is added to them.
use Rattle.std.specs.Prelude.{◌≡◌, ℕ, List, [], ◌∷◌, ◌++◌, option_to_list, refl}
use Rattle.std.specs.List.{flat_map}
use Rattle.rx_base.specs.Paths.{parent_of, prefixes_of}
use Rattle.rx_world.specs.declared.outcomes.FileOut.{FileOut}
use Rattle.rx_world.specs.declared.trees.Tree.{Tree}
use Rattle.rx_world.specs.Files.{all_placed_by, with_file}

abbrev pub empty_tree : Tree
empty_tree = record { files = []; directories = [] }

-- a path and what is above it, the root left out
abbrev pub with_prefixes : List ℕ → List (List ℕ)
with_prefixes [] = []
with_prefixes (byte ∷ bytes) = prefixes_of (byte ∷ bytes) ++ (byte ∷ bytes) ∷ []

abbrev pub directories_with : List (List ℕ) → Tree → Tree
directories_with paths tree = record { files = tree.files; directories = all_placed_by (λ path. path) paths tree.directories }

-- the tree with one more file, and the directories above it
abbrev pub tree_with_file : FileOut → Tree → Tree
tree_with_file file tree = directories_with (prefixes_of file.path) (record { files = with_file file tree.files; directories = tree.directories })

-- the tree with one more directory, and those above it
abbrev pub tree_with_directory : List ℕ → Tree → Tree
tree_with_directory path tree = directories_with (with_prefixes path) tree

abbrev pub tree_with_files : List FileOut → Tree → Tree
tree_with_files [] tree = tree
tree_with_files (file ∷ files) tree = tree_with_files files (tree_with_file file tree)

abbrev pub tree_with_directories : List (List ℕ) → Tree → Tree
tree_with_directories [] tree = tree
tree_with_directories (path ∷ paths) tree = tree_with_directories paths (tree_with_directory path tree)

-- the tree of these files and directories
abbrev pub tree_of : List FileOut → List (List ℕ) → Tree
tree_of files directories = tree_with_directories directories (tree_with_files files empty_tree)

-- the directories in which these paths stand
abbrev pub parents_of : List (List ℕ) → List (List ℕ)
parents_of paths = flat_map (λ path. option_to_list (parent_of path)) paths

-- the tree with the directories in which a command's outputs are to stand
abbrev pub with_parents : List (List ℕ) → Tree → Tree
with_parents outputs tree = tree_with_directories (parents_of outputs) tree

-- directories leave the files as they are
pub files-tree_with_directories : (paths : List (List ℕ)) (tree : Tree) → (tree_with_directories paths tree).files ≡ tree.files
files-tree_with_directories [] tree = refl
files-tree_with_directories (path ∷ paths) tree = files-tree_with_directories paths (tree_with_directory path tree)
