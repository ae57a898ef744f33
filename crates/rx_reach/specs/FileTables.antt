-- Tables of files by their paths, as lists of files.
use Rattle.std.specs.Prelude.{ℕ, List, map}
use Rattle.rx_world.specs.declared.input_files.InputFile.{InputFile}
use Rattle.rx_reach.specs.declared.file_tables.ReadFile.{ReadFile}

-- an entry as a file
abbrev pub file_of : List ℕ × ReadFile → InputFile
file_of entry = record { path = entry.0; digest = entry.1.digest; stamp = entry.1.stamp; executable = entry.1.executable }

-- the paths of some files
abbrev pub paths_of : List InputFile → List (List ℕ)
paths_of files = map (λ file. file.path) files
