-- What a fault of a call means for the blobs that it was about (google/rpc/code.proto: 5 NOT_FOUND, 12 UNIMPLEMENTED).
use Rattle.std.specs.Prelude.{◌≢◌, ℕ, ◌==◌, Bool, false, List, Contains, if◌then◌else◌}
use Rattle.rx_base.specs.declared.digests.Digest.{Digest}
use Rattle.rx_world.specs.declared.call_faults.CallFault.{CallFault}
use Rattle.rx_world.specs.declared.call_faults.CallFault.TheVariants as calls
use Rattle.rx_world.specs.Causes.{Rose}
use Rattle.rx_inputs.specs.declared.read_fault.ReadFault.{ReadFault}
use Rattle.rx_inputs.specs.declared.read_fault.ReadFault.TheVariants as reads
use Rattle.rx_blobs.specs.declared.blob_fault.BlobFault.{BlobFault}
use Rattle.rx_blobs.specs.declared.blob_fault.BlobFault.TheVariants.{BadBlob, Call, InputChanged, Missing, NoMemory, Refused, SourceFault}

-- the call ended with this status
abbrev pub has_code : CallFault → ℕ → Bool
has_code (calls.Status code) wanted = code == wanted
has_code calls.Link wanted = false
has_code (calls.Protocol code) wanted = false
has_code calls.Compressed wanted = false
has_code calls.TooLarge wanted = false
has_code calls.NoStatus wanted = false
has_code (calls.BadMessage at) wanted = false
has_code calls.Cut wanted = false
has_code (calls.BlobRefused digest code) wanted = false
has_code calls.NoMemory wanted = false

-- the farm has no call for batches
abbrev pub is_without_batches : CallFault → Bool
is_without_batches fault = has_code fault 12

-- what a fault of a batch is for a fetch: a blob that was refused as not found is missing
abbrev pub of_batch : CallFault → BlobFault
of_batch (calls.BlobRefused digest code) = if code == 5 then Missing digest else Refused digest code
of_batch calls.NoMemory = NoMemory
of_batch (calls.Status code) = Call (calls.Status code)
of_batch calls.Link = Call calls.Link
of_batch (calls.Protocol code) = Call (calls.Protocol code)
of_batch calls.Compressed = Call calls.Compressed
of_batch calls.TooLarge = Call calls.TooLarge
of_batch calls.NoStatus = Call calls.NoStatus
of_batch (calls.BadMessage at) = Call (calls.BadMessage at)
of_batch calls.Cut = Call calls.Cut

-- what a fault of the stream of one blob is for a fetch
abbrev pub of_stream : Digest → CallFault → BlobFault
of_stream digest fault = if has_code fault 5 then Missing digest else of_batch fault

-- The farm has no call for batches, or leaves the digests out of its answer: byte 0 of that is wrong.
abbrev pub is_without_updates : CallFault → Bool
is_without_updates (calls.Status code) = code == 12
is_without_updates (calls.BadMessage at) = at == 0
is_without_updates calls.Link = false
is_without_updates (calls.Protocol code) = false
is_without_updates calls.Compressed = false
is_without_updates calls.TooLarge = false
is_without_updates calls.NoStatus = false
is_without_updates calls.Cut = false
is_without_updates (calls.BlobRefused digest code) = false
is_without_updates calls.NoMemory = false

-- what a fault of the question which blobs are missing is for an upload
abbrev pub of_ask : CallFault → BlobFault
of_ask calls.NoMemory = NoMemory
of_ask (calls.Status code) = Call (calls.Status code)
of_ask calls.Link = Call calls.Link
of_ask (calls.Protocol code) = Call (calls.Protocol code)
of_ask calls.Compressed = Call calls.Compressed
of_ask calls.TooLarge = Call calls.TooLarge
of_ask calls.NoStatus = Call calls.NoStatus
of_ask (calls.BadMessage at) = Call (calls.BadMessage at)
of_ask calls.Cut = Call calls.Cut
of_ask (calls.BlobRefused digest code) = Call (calls.BlobRefused digest code)

-- what a fault of a batch is for an upload
abbrev pub of_update : CallFault → BlobFault
of_update (calls.BlobRefused digest code) = Refused digest code
of_update calls.NoMemory = NoMemory
of_update (calls.Status code) = Call (calls.Status code)
of_update calls.Link = Call calls.Link
of_update (calls.Protocol code) = Call (calls.Protocol code)
of_update calls.Compressed = Call calls.Compressed
of_update calls.TooLarge = Call calls.TooLarge
of_update calls.NoStatus = Call calls.NoStatus
of_update (calls.BadMessage at) = Call (calls.BadMessage at)
of_update calls.Cut = Call calls.Cut

-- what a fault of the stream of one blob is for an upload
abbrev pub of_write : Digest → CallFault → BlobFault
of_write digest (calls.BlobRefused other code) = Refused digest code
of_write digest calls.NoMemory = NoMemory
of_write digest (calls.Status code) = Call (calls.Status code)
of_write digest calls.Link = Call calls.Link
of_write digest (calls.Protocol code) = Call (calls.Protocol code)
of_write digest calls.Compressed = Call calls.Compressed
of_write digest calls.TooLarge = Call calls.TooLarge
of_write digest calls.NoStatus = Call calls.NoStatus
of_write digest (calls.BadMessage at) = Call (calls.BadMessage at)
of_write digest calls.Cut = Call calls.Cut

-- what it is for an upload that a file isn't read as it was gathered
abbrev pub of_read : ReadFault → BlobFault
of_read (reads.InputChanged input) = InputChanged input
of_read (reads.SourceFault path) = SourceFault path
of_read reads.NoMemory = NoMemory

-- Each fault of a call raised the client's count, a blob that is named is one of these, and the two digests of a bad blob differ. A fetch
-- reads no source tree.
abbrev pub IsFetchCause : ℕ → ℕ → List Digest → BlobFault → Type 0
IsFetchCause before now digests (Call fault) = Rose before now
IsFetchCause before now digests (Missing digest) = Rose before now × Contains digests digest
IsFetchCause before now digests (Refused digest code) = Rose before now × Contains digests digest
IsFetchCause before now digests (BadBlob expected got) = (expected ≢ got) × Contains digests expected
IsFetchCause before now digests (InputChanged input) = ⊥
IsFetchCause before now digests (SourceFault path) = ⊥
IsFetchCause before now digests NoMemory = Unit {0}

abbrev pub IsBadBlob : BlobFault → Type 0
IsBadBlob (BadBlob expected got) = Unit {0}
IsBadBlob (Call fault) = ⊥
IsBadBlob (Missing digest) = ⊥
IsBadBlob (Refused digest code) = ⊥
IsBadBlob (InputChanged input) = ⊥
IsBadBlob (SourceFault path) = ⊥
IsBadBlob NoMemory = ⊥
