-- A file of the inputs that is read again.
use Rattle.std.specs.Prelude.{◌≡◌, ◌≢◌, ◌⊎◌, ℕ, List, [], ◌∷◌, None, Some}
use Rattle.rx_base.specs.declared.digests.Digest.{Digest}
use Rattle.rx_base.specs.Digests.{digest_of}
use Rattle.rx_inputs.specs.declared.read_fault.ReadFault.{ReadFault}
use Rattle.rx_inputs.specs.declared.read_fault.ReadFault.TheVariants.{InputChanged, NoMemory, SourceFault}
use Rattle.rx_world.specs.declared.input_files.InputFile.{InputFile}
use Rattle.rx_world.specs.declared.looks.Look.{Look}
use Rattle.rx_world.specs.declared.looks.ChangedInput.{ChangedInput}
use Rattle.rx_world.specs.declared.looks.Seen.{Seen}
use Rattle.rx_world.specs.declared.sources.Given.{Given}
use Rattle.rx_world.specs.declared.sources.Sources as sources
use Rattle.rx_world.specs.declared.world.World as world
use Rattle.rx_world.specs.Answers.{Gives}
use Rattle.rx_world.specs.Causes.{Rose}
use Rattle.rx_world.specs.Inputs.{look_of}
use Rattle.rx_world.specs.Sources.{given_bytes}

-- what was seen of a file: its look alone, or with the digest of its content
abbrev pub seen_look : Look → Seen
seen_look look = record { look = look; digest = None }

abbrev pub seen_content : Look → Digest → Seen
seen_content look digest = record { look = look; digest = Some digest }

-- What was gathered of the file and what was read of it differ: in the look, or where that is the same in the digest.
abbrev pub Differ : InputFile → Look → List ℕ → Seen → Seen → Type 0
Differ file look bytes first second =
    ((look ≢ look_of file) × (first ≡ seen_look (look_of file)) × (second ≡ seen_look look))
    ⊎ ((look ≡ look_of file) × (digest_of bytes ≢ file.digest) × (first ≡ seen_content look file.digest) × (second ≡ seen_content look (digest_of bytes)))

-- the file was read, and isn't as it was gathered
pub record IsChange (file : InputFile) (answers : List Given) (input : ChangedInput) : Type 0 where
  pub look : Look
  pub bytes : List ℕ
  pub read : answers ≡ given_bytes file.path look bytes ∷ []
  pub path_is : input.path ≡ file.path
  pub differ : Differ file look bytes input.first input.second

-- of these files the next was read once, or nothing was read
abbrev pub IsNextRead : List InputFile → List Given → Type 0
IsNextRead [] answers = answers ≡ []
IsNextRead (file ∷ rest) answers = (answers ≡ []) ⊎ ((look : Look) × (bytes : List ℕ) × (answers ≡ given_bytes file.path look bytes ∷ []))

-- each cause of a file that can't be read as it was gathered, over what was answered and the count of faults
abbrev pub IsReadCause : InputFile → ℕ → ℕ → List Given → ReadFault → Type 0
IsReadCause file before now answers (InputChanged input) = IsChange file answers input
IsReadCause file before now answers (SourceFault path) = (answers ≡ []) × (path ≡ file.path) × Rose before now
IsReadCause file before now answers NoMemory = IsNextRead (file ∷ []) answers

-- Between two states of a source tree the file wasn't read as it was gathered, for this cause.
pub record HasFailedRead {T W : Type 0} (w : world.Ghosts W) (s : sources.Ghosts T W) (before after : T) (file : InputFile)
    (fault : ReadFault) : Type 0 where
  pub answers : List Given
  pub gives : Gives w s before after answers
  pub caused : IsReadCause file (s.faults before) (s.faults after) answers fault
