-- What an attempt read of the files of its inputs, and which causes of its end are those of this machine.
use Rattle.std.specs.Prelude.{◌≡◌, ℕ, List, Option, All, Contains}
use Rattle.rx_inputs.specs.Reads.{Differ}
use Rattle.rx_world.specs.declared.decisions.Decision.{Decision}
use Rattle.rx_world.specs.declared.input_files.InputFile.{InputFile}
use Rattle.rx_world.specs.declared.looks.ChangedInput.{ChangedInput}
use Rattle.rx_world.specs.declared.looks.Look.{Look}
use Rattle.rx_world.specs.declared.remote_causes.RemoteCause.{RemoteCause}
use Rattle.rx_world.specs.declared.remote_causes.RemoteCause.TheVariants as causes
use Rattle.rx_world.specs.declared.sources.Given.{Given}
use Rattle.rx_world.specs.declared.sources.Sources as sources
use Rattle.rx_world.specs.declared.world.World as world
use Rattle.rx_world.specs.Answers.{Gives}
use Rattle.rx_world.specs.Causes.{Rose}
use Rattle.rx_world.specs.Decisions.{StopsBy}
use Rattle.rx_world.specs.Sources.{given_bytes}
use Rattle.rx_blobs.specs.declared.blob_fault.BlobFault.{BlobFault}
use Rattle.rx_blobs.specs.declared.blob_fault.BlobFault.TheVariants as blobs
use Rattle.rx_remote.specs.declared.asks.Heard.{Heard}
use Rattle.rx_remote.specs.declared.asks.Heard.TheVariants.{Begun, Blobs, Cached, Fault, Fetched, Next, Over, Stopped, Told, Uploaded}

-- the answer is a read of one of the files
pub record IsReadOf (files : List InputFile) (answer : Given) : Type 0 where
  pub file : InputFile
  pub among : Contains files file
  pub look : Look
  pub bytes : List ℕ
  pub answer_is : answer ≡ given_bytes file.path look bytes

-- From one state of a source tree to another, files of the inputs were read, and nothing else.
pub record HasRead {T W : Type 0} (w : world.Ghosts W) (s : sources.Ghosts T W) (files : List InputFile) (before after : T)
    (IsSuch : List Given → Type 0) : Type 0 where
  pub answers : List Given
  pub gives : Gives w s before after answers
  pub reads : All (IsReadOf files) answers
  pub is_such : IsSuch answers

-- one of the files was read, and isn't as it was gathered
pub record IsChangedOf (files : List InputFile) (answers : List Given) (input : ChangedInput) : Type 0 where
  pub file : InputFile
  pub among : Contains files file
  pub look : Look
  pub bytes : List ℕ
  pub read : Contains answers (given_bytes file.path look bytes)
  pub path_is : input.path ≡ file.path
  pub differ : Differ file look bytes input.first input.second

-- one of the files couldn't be read
pub record IsUnread (files : List InputFile) (before now : ℕ) (path : List ℕ) : Type 0 where
  pub file : InputFile
  pub among : Contains files file
  pub path_is : path ≡ file.path
  pub rose : Rose before now

-- A cause that isn't the farm's comes only so: a file that changed, a source tree that failed, a decision that was told.
abbrev pub IsOwnCause : List InputFile → List Given → ℕ → ℕ → Option Decision → RemoteCause → Type 0
IsOwnCause files answers before now told (causes.InputChanged input) = IsChangedOf files answers input
IsOwnCause files answers before now told (causes.SourceFault path) = IsUnread files before now path
IsOwnCause files answers before now told (causes.Stopped decision) = StopsBy told decision
IsOwnCause files answers before now told (causes.CallFailed faults) = Unit {0}
IsOwnCause files answers before now told (causes.BadBlob expected got) = Unit {0}
IsOwnCause files answers before now told (causes.BadResult fault) = Unit {0}
IsOwnCause files answers before now told causes.OperationsSpent = Unit {0}
IsOwnCause files answers before now told (causes.WrongVersion low high) = Unit {0}
IsOwnCause files answers before now told causes.NoMemory = Unit {0}

-- an input that changed
abbrev pub IsUnchanged : RemoteCause → Type 0
IsUnchanged (causes.InputChanged input) = ⊥
IsUnchanged (causes.SourceFault path) = Unit {0}
IsUnchanged (causes.Stopped decision) = Unit {0}
IsUnchanged (causes.CallFailed faults) = Unit {0}
IsUnchanged (causes.BadBlob expected got) = Unit {0}
IsUnchanged (causes.BadResult fault) = Unit {0}
IsUnchanged causes.OperationsSpent = Unit {0}
IsUnchanged (causes.WrongVersion low high) = Unit {0}
IsUnchanged causes.NoMemory = Unit {0}

-- the cause that a fault of blobs leads to is such
abbrev pub BlobsGive : (RemoteCause → Type 0) → BlobFault → Type 0
BlobsGive IsSuch (blobs.InputChanged input) = IsSuch (causes.InputChanged input)
BlobsGive IsSuch (blobs.SourceFault path) = IsSuch (causes.SourceFault path)
BlobsGive IsSuch (blobs.BadBlob expected got) = IsSuch (causes.BadBlob expected got)
BlobsGive IsSuch (blobs.Call fault) = Unit {0}
BlobsGive IsSuch (blobs.Missing digest) = Unit {0}
BlobsGive IsSuch (blobs.Refused digest code) = Unit {0}
BlobsGive IsSuch blobs.NoMemory = Unit {0}

-- the cause that what was heard names is such
abbrev pub HeardGives : (RemoteCause → Type 0) → Heard → Type 0
HeardGives IsSuch (Blobs fault) = BlobsGive IsSuch fault
HeardGives IsSuch (Stopped decision) = IsSuch (causes.Stopped decision)
HeardGives IsSuch (Told capabilities) = Unit {0}
HeardGives IsSuch (Cached result) = Unit {0}
HeardGives IsSuch (Uploaded left_out) = Unit {0}
HeardGives IsSuch Begun = Unit {0}
HeardGives IsSuch (Next operation) = Unit {0}
HeardGives IsSuch (Fetched texts) = Unit {0}
HeardGives IsSuch (Fault fault) = Unit {0}
HeardGives IsSuch (Over code) = Unit {0}

-- what was heard names no such cause but the farm's
abbrev pub IsQuiet : Heard → Type 0
IsQuiet heard = (files : List InputFile) (answers : List Given) (before now : ℕ) (told : Option Decision) → HeardGives (IsOwnCause files answers before now told) heard
