-- Files of an input tree, and what a world or a source tree has at their paths.
use Rattle.std.specs.Prelude.{◌≡◌, ℕ, List}
use Rattle.rx_base.specs.Digests.{digest_of}
use Rattle.rx_world.specs.declared.input_files.InputFile.{InputFile}
use Rattle.rx_world.specs.declared.looks.Look.{Look}
use Rattle.rx_world.specs.declared.looks.Look.TheVariants.{File}
use Rattle.rx_world.specs.declared.looks.Stamp.{Stamp}
use Rattle.rx_world.specs.declared.outcomes.FileOut.{FileOut}
use Rattle.rx_world.specs.declared.sources.SourceEntry.{SourceEntry}
use Rattle.rx_world.specs.Sources.{entry_at}

-- the look that a file had when it was gathered
abbrev pub look_of : InputFile → Look
look_of file = File file.stamp file.executable

-- the file with the content that the world has under its stamp
abbrev pub world_copy : (List ℕ → Stamp → List ℕ) → InputFile → FileOut
world_copy content file = record { path = file.path; bytes = content file.path file.stamp; executable = file.executable }

-- the file with the content that a source tree lists at its path
abbrev pub listed_copy : List SourceEntry → InputFile → FileOut
listed_copy entries file = record { path = file.path; bytes = (entry_at file.path entries).bytes; executable = file.executable }

-- the file is as a source tree lists it
pub record IsAsListed (entries : List SourceEntry) (file : InputFile) : Type 0 where
  pub look_is : (entry_at file.path entries).look ≡ look_of file
  pub digest_is : digest_of (entry_at file.path entries).bytes ≡ file.digest
