-- A list of paths, of files and of directories, and the names on a path.
use Rattle.std.specs.Prelude.{ℕ, Bool, List, [], ◌∷◌, ◌++◌, Option, Some, None, map}
use Rattle.rx_base.specs.Paths.{parts}
use Rattle.rx_base.specs.declared.digests.Digest.{Digest}
use Rattle.rx_world.specs.declared.input_files.InputFile.{InputFile}

-- the names on a path, from the root down; the root has none
abbrev pub names_of : List ℕ → List (List ℕ)
names_of [] = []
names_of (byte ∷ bytes) = parts (byte ∷ bytes)

-- what a tree tells of a file beside its path
pub record Content : Type 0 where
  pub digest : Digest
  pub executable : Bool

-- a path with what the file there holds, or with nothing where the path is a directory's
pub record Entry : Type 0 where
  pub path : List ℕ
  pub file : Option Content

abbrev pub content_of : InputFile → Content
content_of file = record { digest = file.digest; executable = file.executable }

abbrev pub file_entry : InputFile → Entry
file_entry file = record { path = file.path; file = Some (content_of file) }

abbrev pub dir_entry : List ℕ → Entry
dir_entry path = record { path = path; file = None }

-- the entries of these files and directories
abbrev pub entries_of : List InputFile → List (List ℕ) → List Entry
entries_of files dirs = map file_entry files ++ map dir_entry dirs
