-- The digests of files that were seen.
use Rattle.std.specs.Prelude.{◌≡◌, ℕ, List, Some, Contains}
use Rattle.rx_base.specs.declared.digests.Digest.{Digest}
use Rattle.rx_base.specs.Digests.{digest_of}
use Rattle.rx_world.specs.declared.input_files.InputFile.{InputFile}
use Rattle.rx_world.specs.declared.looks.Look.{Look}
use Rattle.rx_world.specs.declared.looks.Look.TheVariants.{File}
use Rattle.rx_world.specs.declared.sources.SourceEntry.{SourceEntry}
use Rattle.rx_world.specs.Sources.{entry_at}
use Rattle.rx_scan.specs.declared.seen_files.SeenFile.{SeenFile}
use Rattle.rx_reach.specs.Sights.{seen_at}

-- the file as it was seen, without its digest
abbrev pub seen_file : InputFile → SeenFile
seen_file file = record { path = file.path; stamp = file.stamp; executable = file.executable }

-- the file is what was seen at its path
abbrev pub IsSeen : List (List ℕ × Look) → SeenFile → Type 0
IsSeen sights file = seen_at sights file.path ≡ Some (File file.stamp file.executable)

-- the file is as a source tree lists it: its look, and the digest of what it holds
pub record IsAsListed (entries : List SourceEntry) (file : InputFile) : Type 0 where
  pub look_is : (entry_at file.path entries).look ≡ File file.stamp file.executable
  pub digest_is : digest_of (entry_at file.path entries).bytes ≡ file.digest

-- one of these files has this path, this stamp and this digest
pub record IsKnownOf (known : List InputFile) (file : SeenFile) (digest : Digest) : Type 0 where
  pub one : InputFile
  pub among : Contains known one
  pub path_is : one.path ≡ file.path
  pub stamp_is : one.stamp ≡ file.stamp
  pub digest_is : one.digest ≡ digest
