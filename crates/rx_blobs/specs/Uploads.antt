-- What an upload of blobs asked, sent and read.
use Rattle.std.specs.Prelude.{◌≡◌, ◌≤◌, ◌⊎◌, ◌++◌, ℕ, List, [], ◌∷◌, length, Result, Ok, Err, Contains, map}
use Rattle.std.specs.List.{AllByRecursion, flat_map}
use Rattle.rx_base.specs.Digests.{digest_of}
use Rattle.rx_base.specs.declared.digests.Digest.{Digest}
use Rattle.rx_world.specs.declared.input_files.InputFile.{InputFile}
use Rattle.rx_world.specs.declared.looks.ChangedInput.{ChangedInput}
use Rattle.rx_world.specs.declared.looks.Look.{Look}
use Rattle.rx_world.specs.declared.call_faults.CallFault.{CallFault}
use Rattle.rx_world.specs.declared.sources.Given.{Given}
use Rattle.rx_world.specs.declared.sources.Sources as sources
use Rattle.rx_world.specs.declared.world.World as world
use Rattle.rx_world.specs.Answers.{Gives}
use Rattle.rx_world.specs.Causes.{Rose}
use Rattle.rx_world.specs.Sources.{given_bytes}
use Rattle.rx_exec_messages.specs.declared.callers.Caller as callers
use Rattle.rx_exec_messages.specs.declared.exchanges.Exchange.{Exchange}
use Rattle.rx_exec_messages.specs.declared.exchanges.Exchange.TheVariants.{Capabilities, Execute, FindMissing, GetResult, NextOperation, Read, ReadStream, Update, Wait, WriteStream}
use Rattle.rx_exec_messages.specs.declared.exchanges.NamedBlob.{NamedBlob}
use Rattle.rx_exec_messages.specs.Calls.{IsPartOf, digests_of}
use Rattle.rx_exec_messages.specs.Exchanged.{HasExchanged}
use Rattle.rx_inputs.specs.Reads.{IsChange}
use Rattle.rx_blobs.specs.declared.blob_fault.BlobFault.{BlobFault}
use Rattle.rx_blobs.specs.declared.blob_fault.BlobFault.TheVariants.{BadBlob, Call, InputChanged, Missing, NoMemory, Refused, SourceFault}
use Rattle.rx_blobs.specs.declared.blobs.Blob.{Blob}
use Rattle.rx_blobs.specs.declared.blobs.Blob.TheVariants.{File, Made}
use Rattle.rx_blobs.specs.Fetches.{IsShown, if_answered}

-- ---- blobs

abbrev pub digest_of_blob : Blob → Digest
digest_of_blob (Made named) = named.digest
digest_of_blob (File file) = file.digest

abbrev pub digests_of_blobs : List Blob → List Digest
digests_of_blobs blobs = map digest_of_blob blobs

-- the blob has the digest of its bytes
abbrev pub IsOwn : NamedBlob → Type 0
IsOwn named = digest_of named.bytes ≡ named.digest

-- so it is, where the bytes are at hand
abbrev pub IsMade : Blob → Type 0
IsMade (Made named) = IsOwn named
IsMade (File file) = Unit {0}

abbrev pub AreMade : List Blob → Type 0
AreMade blobs = (blob : Blob) → Contains blobs blob → IsMade blob

-- each of these is one of those
abbrev pub IsWithin : {A : Type 0} → List A → List A → Type 0
IsWithin {A = A} some all = (x : A) → Contains some x → Contains all x

-- ---- what exchanges did

-- the exchange stores blobs, or asks of at most 20,000 which are missing
abbrev pub IsUploadCall : Exchange → Type 0
IsUploadCall (FindMissing digests answer) = length digests ≤ 20000
IsUploadCall (Update blobs answer) = Unit {0}
IsUploadCall (WriteStream digest bytes answer) = Unit {0}
IsUploadCall (Read digests answer) = ⊥
IsUploadCall (ReadStream digest answer) = ⊥
IsUploadCall (Capabilities answer) = ⊥
IsUploadCall (GetResult action answer) = ⊥
IsUploadCall (Execute action skip answer) = ⊥
IsUploadCall (Wait name answer) = ⊥
IsUploadCall (NextOperation answer) = ⊥

abbrev pub missing_in : Result (List Digest) CallFault → List Digest
missing_in (Ok missing) = missing
missing_in (Err fault) = []

-- the digests that an exchange named as missing
abbrev pub digests_missing : Exchange → List Digest
digests_missing (FindMissing digests answer) = missing_in answer
digests_missing (Update blobs answer) = []
digests_missing (WriteStream digest bytes answer) = []
digests_missing (Read digests answer) = []
digests_missing (ReadStream digest answer) = []
digests_missing (Capabilities answer) = []
digests_missing (GetResult action answer) = []
digests_missing (Execute action skip answer) = []
digests_missing (Wait name answer) = []
digests_missing (NextOperation answer) = []

-- the blobs that an exchange sent, whatever was answered
abbrev pub blobs_sent : Exchange → List NamedBlob
blobs_sent (Update blobs answer) = blobs
blobs_sent (WriteStream digest bytes answer) = record { digest = digest; bytes = bytes } ∷ []
blobs_sent (FindMissing digests answer) = []
blobs_sent (Read digests answer) = []
blobs_sent (ReadStream digest answer) = []
blobs_sent (Capabilities answer) = []
blobs_sent (GetResult action answer) = []
blobs_sent (Execute action skip answer) = []
blobs_sent (Wait name answer) = []
blobs_sent (NextOperation answer) = []

-- the digests of the blobs that the farm took in an exchange
abbrev pub digests_taken : Exchange → List Digest
digests_taken (Update blobs answer) = if_answered answer (digests_of blobs)
digests_taken (WriteStream digest bytes answer) = if_answered answer (digest ∷ [])
digests_taken (FindMissing digests answer) = []
digests_taken (Read digests answer) = []
digests_taken (ReadStream digest answer) = []
digests_taken (Capabilities answer) = []
digests_taken (GetResult action answer) = []
digests_taken (Execute action skip answer) = []
digests_taken (Wait name answer) = []
digests_taken (NextOperation answer) = []

-- the blob was named as missing, and has the digest of its bytes
pub record IsNamed (named : List Digest) (blob : NamedBlob) : Type 0 where
  pub missing : Contains named blob.digest
  pub own : IsOwn blob

-- Each blob that is sent was named as missing before, by an exchange in front of it or in this list.
abbrev pub SendsNamed : List Digest → List Exchange → Type 0
SendsNamed named [] = Unit {0}
SendsNamed named (exchange ∷ later) = AllByRecursion (IsNamed named) (blobs_sent exchange) × SendsNamed (named ++ digests_missing exchange) later

-- ---- blobs that are sent

-- Blobs of this list were sent, and those that were taken are these, each once and in this order.
pub record IsSent (digests named : List Digest) (part : List Exchange) : Type 0 where
  pub calls : AllByRecursion IsUploadCall part
  pub sends : SendsNamed named part
  pub taken : flat_map digests_taken part ≡ digests

-- Blobs of this list were sent. A fault of a call is that of the last exchange.
pub record IsFailedSending (named : List Digest) (fault : BlobFault) (part : List Exchange) : Type 0 where
  pub calls : AllByRecursion IsUploadCall part
  pub sends : SendsNamed named part
  pub shown : IsShown fault part

abbrev pub IsSending : {A : Type 0} → List Digest → List Digest → Result A BlobFault → List Exchange → Type 0
IsSending digests named (Ok x) part = IsSent digests named part
IsSending digests named (Err fault) part = IsFailedSending named fault part

-- ---- a whole upload

-- a blob was asked for, and not named as missing
pub record IsPresent (part : List Exchange) (digest : Digest) : Type 0 where
  pub digests : List Digest
  pub missing : List Digest
  pub there : Contains part (FindMissing digests (Ok missing))
  pub asked : Contains digests digest
  pub not_missing : Contains missing digest → ⊥

-- the farm took the blob, or has it by its own answer, or the blob was left out
abbrev pub IsStored : List Digest → List Exchange → Digest → Type 0
IsStored left_out part digest = Contains left_out digest ⊎ (Contains (flat_map digests_taken part) digest ⊎ IsPresent part digest)

-- Blobs were asked for and stored alone. What was sent had been named as missing, and each blob is stored or was left out.
pub record IsUploaded (digests left_out : List Digest) (part : List Exchange) : Type 0 where
  pub calls : AllByRecursion IsUploadCall part
  pub sends : SendsNamed [] part
  pub stored : (digest : Digest) → Contains digests digest → IsStored left_out part digest

-- The same calls, and what was sent had been named as missing. A fault of a call is that of the last exchange.
abbrev pub IsFailedUpload : BlobFault → List Exchange → Type 0
IsFailedUpload fault part = IsFailedSending [] fault part

-- the exchanges of an upload of these blobs that ended so
abbrev pub IsUpload : List Digest → Result (List Digest) BlobFault → List Exchange → Type 0
IsUpload digests (Ok left_out) part = IsUploaded digests left_out part
IsUpload digests (Err fault) part = IsFailedUpload fault part

-- Each fault of a call raised the client's count, and a blob that was refused is one of these. What was read says why a read failed.
abbrev pub IsUploadCause : ℕ → ℕ → List Digest → BlobFault → Type 0
IsUploadCause before now digests (Call fault) = Rose before now
IsUploadCause before now digests (Refused digest code) = Rose before now × Contains digests digest
IsUploadCause before now digests (Missing digest) = ⊥
IsUploadCause before now digests (BadBlob expected got) = ⊥
IsUploadCause before now digests (InputChanged input) = Unit {0}
IsUploadCause before now digests (SourceFault path) = Unit {0}
IsUploadCause before now digests NoMemory = Unit {0}

-- the faults of a call, or want of memory
abbrev pub IsCallFault : BlobFault → Type 0
IsCallFault (Call fault) = Unit {0}
IsCallFault (Refused digest code) = Unit {0}
IsCallFault (Missing digest) = ⊥
IsCallFault (BadBlob expected got) = ⊥
IsCallFault (InputChanged input) = ⊥
IsCallFault (SourceFault path) = ⊥
IsCallFault NoMemory = Unit {0}

-- the faults without a call
abbrev pub IsOwnFault : BlobFault → Type 0
IsOwnFault (Call fault) = ⊥
IsOwnFault (Refused digest code) = ⊥
IsOwnFault (Missing digest) = ⊥
IsOwnFault (BadBlob expected got) = ⊥
IsOwnFault (InputChanged input) = Unit {0}
IsOwnFault (SourceFault path) = Unit {0}
IsOwnFault NoMemory = Unit {0}

-- ---- what was read

-- the answer is a read of one of the files
pub record IsReadOf (blobs : List Blob) (answer : Given) : Type 0 where
  pub file : InputFile
  pub there : Contains blobs (File file)
  pub look : Look
  pub bytes : List ℕ
  pub answer_is : answer ≡ given_bytes file.path look bytes

-- the last read is of one of the files, which isn't as it was gathered
pub record EndsInChange (blobs : List Blob) (answers : List Given) (input : ChangedInput) : Type 0 where
  pub file : InputFile
  pub there : Contains blobs (File file)
  pub front : List Given
  pub last : List Given
  pub answers_are : answers ≡ front ++ last
  pub change : IsChange file last input

-- the path is that of one of the files
pub record IsPathIn (blobs : List Blob) (path : List ℕ) : Type 0 where
  pub file : InputFile
  pub there : Contains blobs (File file)
  pub path_is : path ≡ file.path

-- each fault of a read only for its cause, over what was read and the count of the source tree's faults
abbrev pub IsReadFault : List Blob → ℕ → ℕ → List Given → BlobFault → Type 0
IsReadFault blobs before now answers (InputChanged input) = EndsInChange blobs answers input
IsReadFault blobs before now answers (SourceFault path) = Rose before now × IsPathIn blobs path
IsReadFault blobs before now answers (Call fault) = Unit {0}
IsReadFault blobs before now answers (Refused digest code) = Unit {0}
IsReadFault blobs before now answers (Missing digest) = Unit {0}
IsReadFault blobs before now answers (BadBlob expected got) = Unit {0}
IsReadFault blobs before now answers NoMemory = Unit {0}

abbrev pub IsReadEnd : {A : Type 0} → List Blob → ℕ → ℕ → Result A BlobFault → List Given → Type 0
IsReadEnd blobs before now (Ok x) answers = Unit {0}
IsReadEnd blobs before now (Err fault) answers = IsReadFault blobs before now answers fault

-- Between two states of a source tree files of these blobs were read, and nothing else was asked.
pub record HasRead {T W : Type 0} (w : world.Ghosts W) (s : sources.Ghosts T W) (before after : T) (blobs : List Blob)
    (IsSo : List Given → Type 0) : Type 0 where
  pub answers : List Given
  pub gives : Gives w s before after answers
  pub reads : AllByRecursion (IsReadOf blobs) answers
  pub is_so : IsSo answers

-- ---- which blobs are asked for

-- the first of these are some of the digests, in their order, and each digest is among the first or among the others, which aren't more
pub record IsSplit (digests known asked : List Digest) : Type 0 where
  pub part : IsPartOf known digests
  pub each : (digest : Digest) → Contains digests digest → Contains known digest ⊎ Contains asked digest
  pub few : length asked ≤ length digests

-- ---- amid an upload

-- Of these digests those in front of the rest were sent.
pub record IsSendingOn {C W : Type 0} (c : callers.Ghosts C W) (old now : C) (digests named rest : List Digest) : Type 0 where
  pub done : List Digest
  pub digests_are : done ++ rest ≡ digests
  pub exchanged : HasExchanged c old now (IsSent done named)

-- Of the blobs that are wanted those in front of the rest are held.
pub record IsCollecting {T W : Type 0} (w : world.Ghosts W) (s : sources.Ghosts T W) (before now : T) (blobs left : List Blob)
    (wanted rest : List Digest) (named : List NamedBlob) : Type 0 where
  pub wanted_are : digests_of named ++ rest ≡ wanted
  pub own : AllByRecursion IsOwn named
  pub left_in : IsWithin left blobs
  pub among : IsWithin (digests_of named) (digests_of_blobs blobs)
  pub read : HasRead w s before now blobs (λ answers. Unit {0})

-- Of the blobs those in front of the rest were uploaded.
pub record IsUploading {C T W : Type 0} (w : world.Ghosts W) (c : callers.Ghosts C W) (s : sources.Ghosts T W) (old now : C) (before between : T)
    (blobs rest : List Blob) (left_out : List Digest) : Type 0 where
  pub done : List Blob
  pub blobs_are : done ++ rest ≡ blobs
  pub left_part : IsPartOf left_out (digests_of_blobs done)
  pub exchanged : HasExchanged c old now (IsUploaded (digests_of_blobs done) left_out)
  pub read : HasRead w s before between blobs (λ answers. Unit {0})
