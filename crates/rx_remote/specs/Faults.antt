-- The faults of calls: which are asked again, and how they stand in the list of an attempt (google/rpc/code.proto).
use Rattle.std.specs.Prelude.{ℕ, ◌==◌, ◌&&◌, ◌||◌, Bool, true, false, not, List, [], ◌∷◌, ◌++◌}
use Rattle.rx_blobs.specs.declared.blob_fault.BlobFault.{BlobFault}
use Rattle.rx_blobs.specs.declared.blob_fault.BlobFault.TheVariants as blobs
use Rattle.rx_remote.specs.declared.asks.Heard.{Heard}
use Rattle.rx_remote.specs.declared.asks.Heard.TheVariants.{Begun, Blobs, Cached, Fault, Fetched, Next, Over, Stopped, Told, Uploaded}
use Rattle.rx_remote.specs.declared.phases.Phase.{Phase}
use Rattle.rx_remote.specs.declared.phases.Phase.TheVariants as phases
use Rattle.rx_world.specs.declared.call_faults.CallFault.{CallFault}
use Rattle.rx_world.specs.declared.call_faults.CallFault.TheVariants.{BadMessage, BlobRefused, Compressed, Cut, Link, NoMemory, NoStatus, Protocol, Status, TooLarge}

-- one fault more; want of memory is no fault of the farm, and stands in no list
abbrev pub with_fault : List CallFault → CallFault → List CallFault
with_fault faults NoMemory = faults
with_fault faults (Status code) = faults ++ Status code ∷ []
with_fault faults Link = faults ++ Link ∷ []
with_fault faults (Protocol code) = faults ++ Protocol code ∷ []
with_fault faults Compressed = faults ++ Compressed ∷ []
with_fault faults TooLarge = faults ++ TooLarge ∷ []
with_fault faults NoStatus = faults ++ NoStatus ∷ []
with_fault faults (BadMessage at) = faults ++ BadMessage at ∷ []
with_fault faults Cut = faults ++ Cut ∷ []
with_fault faults (BlobRefused digest code) = faults ++ BlobRefused digest code ∷ []

-- a blob that is missing was refused with 5, NOT_FOUND
abbrev pub with_blobs : List CallFault → BlobFault → List CallFault
with_blobs faults (blobs.Call fault) = with_fault faults fault
with_blobs faults (blobs.Missing digest) = faults ++ BlobRefused digest 5 ∷ []
with_blobs faults (blobs.Refused digest code) = faults ++ BlobRefused digest code ∷ []
with_blobs faults (blobs.BadBlob expected got) = faults
with_blobs faults (blobs.InputChanged input) = faults
with_blobs faults (blobs.SourceFault path) = faults
with_blobs faults blobs.NoMemory = faults

abbrev pub faults_after : List CallFault → Heard → List CallFault
faults_after faults (Fault fault) = with_fault faults fault
faults_after faults (Over code) = faults ++ Status code ∷ []
faults_after faults (Blobs fault) = with_blobs faults fault
faults_after faults (Told capabilities) = faults
faults_after faults (Cached result) = faults
faults_after faults (Uploaded left_out) = faults
faults_after faults Begun = faults
faults_after faults (Next operation) = faults
faults_after faults (Fetched texts) = faults
faults_after faults (Stopped decision) = faults

-- The codes that are asked again whatever was asked: CANCELLED, UNKNOWN, DEADLINE_EXCEEDED, RESOURCE_EXHAUSTED, ABORTED, INTERNAL,
-- UNAVAILABLE.
unfoldable pub is_retried_code : ℕ → Bool
is_retried_code code = code == 1 || (code == 2 || (code == 4 || (code == 8 || (code == 10 || (code == 13 || code == 14)))))

abbrev pub is_retried : CallFault → Bool
is_retried (Status code) = is_retried_code code
is_retried Link = true
is_retried Cut = true
is_retried NoStatus = true
is_retried (Protocol code) = false
is_retried Compressed = false
is_retried TooLarge = false
is_retried (BadMessage at) = false
is_retried (BlobRefused digest code) = false
is_retried NoMemory = false

-- An execution that is over with this code is run again: 4, DEADLINE_EXCEEDED, tells there that the action took longer than its own
-- timeout, and would again (remote_execution.proto, ExecuteResponse).
unfoldable pub is_run_again : ℕ → Bool
is_run_again code = is_retried_code code && not (code == 4)

-- An execution that is over with this code lacked blobs: 9, FAILED_PRECONDITION, by the standard (remote_execution.proto, Execute), and 5,
-- NOT_FOUND, as farms tell it of blobs that they had.
unfoldable pub lacked_blobs : ℕ → Bool
lacked_blobs code = code == 9 || code == 5

-- a call that ended with this code
abbrev pub has_code : ℕ → CallFault → Bool
has_code wanted (Status code) = code == wanted
has_code wanted Link = false
has_code wanted Cut = false
has_code wanted NoStatus = false
has_code wanted (Protocol code) = false
has_code wanted Compressed = false
has_code wanted TooLarge = false
has_code wanted (BadMessage at) = false
has_code wanted (BlobRefused digest code) = false
has_code wanted NoMemory = false

abbrev pub is_no_memory : CallFault → Bool
is_no_memory NoMemory = true
is_no_memory (Status code) = false
is_no_memory Link = false
is_no_memory Cut = false
is_no_memory NoStatus = false
is_no_memory (Protocol code) = false
is_no_memory Compressed = false
is_no_memory TooLarge = false
is_no_memory (BadMessage at) = false
is_no_memory (BlobRefused digest code) = false

-- A fault that is asked again after this ask alone: 9, FAILED_PRECONDITION, tells of an execution that the farm lacks blobs, and 5,
-- NOT_FOUND, of a wait that it knows no such operation.
abbrev pub is_own : Phase → CallFault → Bool
is_own phases.Execute fault = has_code 9 fault
is_own phases.NextOperation fault = has_code 9 fault
is_own phases.Wait fault = has_code 5 fault
is_own phases.Capabilities fault = false
is_own phases.GetResult fault = false
is_own (phases.Upload fresh) fault = false
is_own phases.Fetch fault = false
is_own phases.Ended fault = false
