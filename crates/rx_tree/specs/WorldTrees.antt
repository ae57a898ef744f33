-- The root of a tree of the world, whose files have bytes: the same Directory that a list of its paths has.
use Rattle.std.specs.Prelude.{◌≡◌, ℕ, List, ◌++◌, All, Some, map}
use Rattle.rx_base.specs.Digests.{digest_of}
use Rattle.rx_base.specs.declared.digests.Digest.{Digest}
use Rattle.rx_world.specs.declared.input_files.InputFile.{InputFile}
use Rattle.rx_world.specs.declared.outcomes.FileOut.{FileOut}
use Rattle.rx_world.specs.declared.trees.Tree.{Tree as WorldTree}
use Rattle.rx_world.specs.Trees.{tree_of as world_tree_of}
use Rattle.rx_tree.specs.Entries.{Entry, dir_entry}
use Rattle.rx_tree.specs.Trees.{tree, tree_bytes}

-- a file with its bytes, as an entry
abbrev pub copy_entry : FileOut → Entry
copy_entry file = record { path = file.path; file = Some (record { digest = digest_of file.bytes; executable = file.executable }) }

-- all that the tree has, by its paths
abbrev pub world_entries : WorldTree → List Entry
world_entries t = map copy_entry t.files ++ map dir_entry t.directories

-- the digest of the root's Directory
abbrev pub root_of : WorldTree → Digest
root_of t = digest_of (tree_bytes (tree (world_entries t)))

-- ---- the tree that a list of paths stands for

-- the file with its bytes
pub record IsCopyOf (file : InputFile) (copy : FileOut) : Type 0 where
  pub path_is : copy.path ≡ file.path
  pub digest_is : digest_of copy.bytes ≡ file.digest
  pub mark_is : copy.executable ≡ file.executable

abbrev pub AreCopies : (InputFile → FileOut) → List InputFile → Type 0
AreCopies copy files = All (λ file. IsCopyOf file (copy file)) files

-- Whatever bytes the files have that their digests name: this is the root of the tree with these files and directories.
abbrev pub IsRootOfCopies : List InputFile → List (List ℕ) → Digest → Type 0
IsRootOfCopies files dirs root =
    (copy : InputFile → FileOut) → AreCopies copy files → root ≡ root_of (world_tree_of (map copy files) dirs)
