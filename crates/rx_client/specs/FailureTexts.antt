-- The ends of attempts that failed, in words: `remote: UNAVAILABLE 4 times; here: not started`.
use Rattle.std.specs.Prelude.{ℕ, ◌+◌, ◌==◌, Bool, false, not, ◌&&◌, List, [], ◌∷◌, ◌++◌, codes, length, map, if◌then◌else◌}
use Rattle.std.specs.Fmt.{decimal, signed_decimal}
use Rattle.std.specs.List.{flat_map, list_all}
use Rattle.std.specs.Str.{bytes_eq}
use Rattle.rx_world.specs.declared.attempts.BenchStep.{BenchStep}
use Rattle.rx_world.specs.declared.attempts.BenchStep.TheVariants as steps
use Rattle.rx_world.specs.declared.attempts.Cause.{Cause}
use Rattle.rx_world.specs.declared.attempts.Cause.TheVariants as causes
use Rattle.rx_world.specs.declared.attempts.Failure.{Failure}
use Rattle.rx_world.specs.declared.attempts.Failure.TheVariants as failures
use Rattle.rx_world.specs.declared.call_faults.CallFault.{CallFault}
use Rattle.rx_world.specs.declared.call_faults.CallFault.TheVariants as faults
use Rattle.rx_world.specs.declared.refusals.OutputLimit.{OutputLimit}
use Rattle.rx_world.specs.declared.refusals.OutputLimit.TheVariants as limits
use Rattle.rx_world.specs.declared.remote_causes.RemoteCause.{RemoteCause}
use Rattle.rx_world.specs.declared.remote_causes.RemoteCause.TheVariants as remotes
use Rattle.rx_world.specs.declared.remote_causes.ResultFault.{ResultFault}
use Rattle.rx_world.specs.declared.remote_causes.ResultFault.TheVariants as results

-- texts with one between each two
abbrev pub joined : List ℕ → List (List ℕ) → List ℕ
joined between [] = []
joined between (text ∷ texts) = text ++ flat_map (λ other. between ++ other) texts

-- ---- calls on a farm

-- the name of a status of gRPC (google.rpc.Code)
unfoldable pub status_text : ℕ → List ℕ
status_text status =
    if status == 1 then codes "CANCELLED"
    else if status == 2 then codes "UNKNOWN"
    else if status == 3 then codes "INVALID_ARGUMENT"
    else if status == 4 then codes "DEADLINE_EXCEEDED"
    else if status == 5 then codes "NOT_FOUND"
    else if status == 6 then codes "ALREADY_EXISTS"
    else if status == 7 then codes "PERMISSION_DENIED"
    else if status == 8 then codes "RESOURCE_EXHAUSTED"
    else if status == 9 then codes "FAILED_PRECONDITION"
    else if status == 10 then codes "ABORTED"
    else if status == 11 then codes "OUT_OF_RANGE"
    else if status == 12 then codes "UNIMPLEMENTED"
    else if status == 13 then codes "INTERNAL"
    else if status == 14 then codes "UNAVAILABLE"
    else if status == 15 then codes "DATA_LOSS"
    else if status == 16 then codes "UNAUTHENTICATED"
    else codes "status " ++ decimal status

abbrev pub fault_text : CallFault → List ℕ
fault_text (faults.Status status) = status_text status
fault_text faults.Link = codes "the connection failed"
fault_text (faults.Protocol error) = codes "HTTP/2 error " ++ decimal error
fault_text faults.Compressed = codes "a compressed message"
fault_text faults.TooLarge = codes "a message too large"
fault_text faults.NoStatus = codes "no status"
fault_text (faults.BadMessage at) = codes "a bad message"
fault_text faults.Cut = codes "the operation was cut"
fault_text (faults.BlobRefused digest status) = codes "a blob refused: " ++ status_text status
fault_text faults.NoMemory = codes "out of memory"

-- there are several, and all are alike
abbrev pub are_repeated : List (List ℕ) → Bool
are_repeated [] = false
are_repeated (text ∷ others) = not (length others == 0) && list_all (bytes_eq text) others

-- the first, and how often it came
abbrev pub repeated : List (List ℕ) → List ℕ
repeated [] = []
repeated (text ∷ others) = text ++ codes " " ++ decimal (length others + 1) ++ codes " times"

-- several that are alike are told once
abbrev pub fault_texts : List (List ℕ) → List ℕ
fault_texts texts = if are_repeated texts then repeated texts else joined (codes ", ") texts

abbrev pub calls_text : List CallFault → List ℕ
calls_text all = fault_texts (map fault_text all)

-- ---- attempts

abbrev pub result_text : ResultFault → List ℕ
result_text results.NoResult = codes "no result"
result_text results.PathTwice = codes "an output twice in the result"
result_text results.OutputAbsent = codes "an output missing in the result"
result_text results.NoDigest = codes "an output without a digest in the result"
result_text results.TooLarge = codes "a result too large"

abbrev pub remote_text : RemoteCause → List ℕ
remote_text (remotes.CallFailed all) = calls_text all
remote_text (remotes.BadBlob expected got) = codes "other bytes than asked for"
remote_text (remotes.BadResult fault) = result_text fault
remote_text remotes.OperationsSpent = codes "the operation wasn't done"
remote_text (remotes.Stopped decision) = codes "stopped"
remote_text (remotes.InputChanged input) = codes "input changed " ++ input.path
remote_text (remotes.WrongVersion low high) = codes "version 2 of the API isn't served"
remote_text (remotes.SourceFault path) = codes "can't read " ++ path
remote_text remotes.NoMemory = codes "out of memory"

abbrev pub step_text : BenchStep → List ℕ
step_text steps.Make = codes "no sandbox"
step_text steps.MakeDir = codes "no directory in the sandbox"
step_text steps.Put = codes "input not put"
step_text steps.Run = codes "not started"
step_text steps.Take = codes "output not taken"

abbrev pub output_limit_text : OutputLimit → List ℕ
output_limit_text limits.FileBytes = codes "an output too large"
output_limit_text limits.FilesBytes = codes "outputs too large"
output_limit_text limits.TextBytes = codes "texts too large"

abbrev pub local_text : Cause → List ℕ
local_text (causes.BenchFault step) = step_text step
local_text (causes.OutputMissing path) = codes "output missing " ++ path
local_text (causes.InputChanged input) = codes "input changed " ++ input.path
local_text (causes.OutputTooLarge limit n) = output_limit_text limit
local_text (causes.SourceFault path) = codes "can't read " ++ path
local_text (causes.Stopped decision) = codes "stopped"
local_text causes.NoMemory = codes "out of memory"

abbrev pub failure_text : Failure → List ℕ
failure_text (failures.Local cause) = codes "here: " ++ local_text cause
failure_text (failures.Remote cause) = codes "remote: " ++ remote_text cause
failure_text (failures.NonZero exit) = codes "remote: exit " ++ signed_decimal exit

-- each attempt that failed, in their order
abbrev pub failures_text : List Failure → List ℕ
failures_text all = joined (codes "; ") (map failure_text all)
