-- How an attempt ended without what may be published, and its message: attempt 1 (1 local, 2 remote), cause 2, value 3 (int64), path 4, first 5,
-- second 6, faults 7 (packed), n 8.
use Rattle.std.specs.Prelude.{ℕ, ℤ, ◌==◌, ◌&&◌, ◌||◌, Bool, not, List, [], ◌∷◌, length, Option, None, Some, is_none, Result, Ok, if◌then◌else◌}
use Rattle.std.specs.List.{list_any}
use Rattle.rx_base.specs.Results.{◌>>=◌}
use Rattle.rx_base.specs.declared.digests.Digest.{Digest}
use Rattle.rx_wire.specs.Integers.{int32_of, sign_extended}
use Rattle.rx_world.specs.declared.attempts.BenchStep.{BenchStep}
use Rattle.rx_world.specs.declared.attempts.BenchStep.TheVariants as steps
use Rattle.rx_world.specs.declared.attempts.Cause.{Cause}
use Rattle.rx_world.specs.declared.attempts.Cause.TheVariants as causes
use Rattle.rx_world.specs.declared.attempts.Failure.{Failure}
use Rattle.rx_world.specs.declared.attempts.Failure.TheVariants as failures
use Rattle.rx_world.specs.declared.call_faults.CallFault.{CallFault}
use Rattle.rx_world.specs.declared.looks.ChangedInput.{ChangedInput}
use Rattle.rx_world.specs.declared.refusals.OutputLimit.{OutputLimit}
use Rattle.rx_world.specs.declared.refusals.OutputLimit.TheVariants as limits
use Rattle.rx_world.specs.declared.remote_causes.RemoteCause.{RemoteCause}
use Rattle.rx_world.specs.declared.remote_causes.RemoteCause.TheVariants as remotes
use Rattle.rx_world.specs.declared.remote_causes.ResultFault.{ResultFault}
use Rattle.rx_world.specs.declared.remote_causes.ResultFault.TheVariants as results
use Rattle.rx_world.specs.declared.versions.SemVer.{SemVer}
use Rattle.rx_session.specs.declared.end_message.EndMessage.{EndMessage}
use Rattle.rx_session.specs.declared.reply_fault.ReplyFault.{ReplyFault}
use Rattle.rx_session.specs.declared.seen_message.SeenMessage.{SeenMessage}
use Rattle.rx_session.specs.CallFaults.{faults_in, packed_faults}
use Rattle.rx_session.specs.PathTexts.{own_path}
use Rattle.rx_session.specs.ReplyFaults.{bad_reply}
use Rattle.rx_session.specs.Seen.{changed_of, is_no_file, nothing_seen, seen_message}
use Rattle.rx_session.specs.Versions.{versions_of, versions_text}

-- ---- numbers

abbrev pub step_number : BenchStep → ℕ
step_number steps.Make = 1
step_number steps.MakeDir = 2
step_number steps.Put = 3
step_number steps.Run = 4
step_number steps.Take = 5

abbrev pub step_of : ℕ → Result BenchStep ReplyFault
step_of n =
    if n == 1 then Ok steps.Make
    else if n == 2 then Ok steps.MakeDir
    else if n == 3 then Ok steps.Put
    else if n == 4 then Ok steps.Run
    else if n == 5 then Ok steps.Take
    else bad_reply

-- 1 to 5 are limits on the files of a command, in a reply
abbrev pub output_limit_number : OutputLimit → ℕ
output_limit_number limits.FileBytes = 6
output_limit_number limits.FilesBytes = 7
output_limit_number limits.TextBytes = 8

abbrev pub output_limit_of : ℕ → Result OutputLimit ReplyFault
output_limit_of n =
    if n == 6 then Ok limits.FileBytes
    else if n == 7 then Ok limits.FilesBytes
    else if n == 8 then Ok limits.TextBytes
    else bad_reply

abbrev pub result_fault_number : ResultFault → ℕ
result_fault_number results.NoResult = 1
result_fault_number results.PathTwice = 2
result_fault_number results.OutputAbsent = 3
result_fault_number results.NoDigest = 4
result_fault_number results.TooLarge = 5

abbrev pub result_fault_of : ℕ → Result ResultFault ReplyFault
result_fault_of n =
    if n == 1 then Ok results.NoResult
    else if n == 2 then Ok results.PathTwice
    else if n == 3 then Ok results.OutputAbsent
    else if n == 4 then Ok results.NoDigest
    else if n == 5 then Ok results.TooLarge
    else bad_reply

-- ---- written

-- an attempt's number and a cause's, and nothing beside them
abbrev pub bare_end : ℕ → ℕ → EndMessage
bare_end attempt cause = record { attempt = attempt; cause = cause; value = 0; path = []; first = None; second = None; faults = []; n = 0 }

abbrev pub changed_end : ℕ → ℕ → ChangedInput → EndMessage
changed_end attempt cause input =
    record (bare_end attempt cause) { path = input.path; first = Some (seen_message input.first); second = Some (seen_message input.second) }

abbrev pub path_end : ℕ → ℕ → List ℕ → EndMessage
path_end attempt cause path = record (bare_end attempt cause) { path = path }

-- why a local attempt has no outcome
abbrev pub local_end : Cause → EndMessage
local_end (causes.BenchFault step) = record (bare_end 1 1) { value = step_number step }
local_end (causes.OutputMissing path) = path_end 1 2 path
local_end (causes.InputChanged input) = changed_end 1 3 input
local_end (causes.OutputTooLarge limit n) = record (bare_end 1 4) { value = output_limit_number limit; n = n }
local_end (causes.SourceFault path) = path_end 1 5 path
local_end (causes.Stopped decision) = bare_end 1 6
local_end causes.NoMemory = bare_end 1 7

-- a digest alone, as what was seen
abbrev pub digest_seen : Digest → SeenMessage
digest_seen digest = record nothing_seen { digest = Some digest }

abbrev pub call_failed_end : List CallFault → EndMessage
call_failed_end faults = record (bare_end 2 1) { faults = packed_faults faults }

abbrev pub wrong_version_end : SemVer → SemVer → EndMessage
wrong_version_end low high = record (bare_end 2 8) { path = versions_text low high }

-- why a remote attempt has no outcome
abbrev pub remote_end : RemoteCause → EndMessage
remote_end (remotes.CallFailed faults) = call_failed_end faults
remote_end (remotes.BadBlob expected got) = record (bare_end 2 2) { first = Some (digest_seen expected); second = Some (digest_seen got) }
remote_end (remotes.BadResult fault) = record (bare_end 2 3) { value = result_fault_number fault }
remote_end remotes.OperationsSpent = bare_end 2 4
remote_end (remotes.Stopped decision) = bare_end 2 5
remote_end (remotes.InputChanged input) = changed_end 2 6 input
remote_end (remotes.WrongVersion low high) = wrong_version_end low high
remote_end (remotes.SourceFault path) = path_end 2 9 path
remote_end remotes.NoMemory = bare_end 2 10

-- cause 7: a command ended on the farm with another code than 0
abbrev pub end_of : Failure → EndMessage
end_of (failures.Local cause) = local_end cause
end_of (failures.Remote cause) = remote_end cause
end_of (failures.NonZero exit) = record (bare_end 2 7) { value = sign_extended exit }

-- ---- read

-- a field is one of these, or is its default
abbrev pub allows : List ℕ → ℕ → Bool → Bool
allows numbers number is_default = list_any (λ n. n == number) numbers || is_default

-- beside attempt and cause, the message has no field but these
unfoldable pub end_has_only : List ℕ → EndMessage → Bool
end_has_only numbers x =
    allows numbers 3 (x.value == 0)
    && (allows numbers 4 (length x.path == 0)
    && (allows numbers 5 (is_none x.first)
    && (allows numbers 6 (is_none x.second)
    && (allows numbers 7 (length x.faults == 0)
    && allows numbers 8 (x.n == 0)))))

-- the fields of each cause of a local attempt
abbrev pub local_fields : ℕ → List ℕ
local_fields cause =
    if cause == 1 then 3 ∷ []
    else if cause == 2 then 4 ∷ []
    else if cause == 3 then 4 ∷ 5 ∷ 6 ∷ []
    else if cause == 4 then 3 ∷ 8 ∷ []
    else if cause == 5 then 4 ∷ []
    else []

-- and of a remote one
abbrev pub remote_fields : ℕ → List ℕ
remote_fields cause =
    if cause == 1 then 7 ∷ []
    else if cause == 2 then 5 ∷ 6 ∷ []
    else if cause == 3 then 3 ∷ []
    else if cause == 6 then 4 ∷ 5 ∷ 6 ∷ []
    else if cause == 7 then 3 ∷ []
    else if cause == 8 then 4 ∷ []
    else if cause == 9 then 4 ∷ []
    else []

abbrev pub some_or_bad : {X : Type 0} → Option X → Result X ReplyFault
some_or_bad None = bad_reply
some_or_bad (Some x) = Ok x

unfoldable pub bench_fault_of : EndMessage → Result Cause ReplyFault
bench_fault_of x = do
  step ← step_of x.value
  Ok (causes.BenchFault step)

unfoldable pub output_missing_of : EndMessage → Result Cause ReplyFault
output_missing_of x = do
  path ← own_path x.path
  Ok (causes.OutputMissing path)

unfoldable pub input_changed_of : EndMessage → Result Cause ReplyFault
input_changed_of x = do
  input ← changed_of x.path x.first x.second
  Ok (causes.InputChanged input)

unfoldable pub output_too_large_of : EndMessage → Result Cause ReplyFault
output_too_large_of x = do
  limit ← output_limit_of x.value
  Ok (causes.OutputTooLarge limit x.n)

unfoldable pub source_fault_of : EndMessage → Result Cause ReplyFault
source_fault_of x = do
  path ← own_path x.path
  Ok (causes.SourceFault path)

-- No reply has an end that a decision or want of memory made: 6 and 7 are written and not read.
unfoldable pub local_cause_of : EndMessage → Result Cause ReplyFault
local_cause_of x =
    if x.cause == 1 then bench_fault_of x
    else if x.cause == 2 then output_missing_of x
    else if x.cause == 3 then input_changed_of x
    else if x.cause == 4 then output_too_large_of x
    else if x.cause == 5 then source_fault_of x
    else bad_reply

-- one fault at least
unfoldable pub call_failed_of : EndMessage → Result RemoteCause ReplyFault
call_failed_of x =
    if length x.faults == 0 then bad_reply
    else do
      faults ← faults_in x.faults
      Ok (remotes.CallFailed faults)

-- a message with a digest alone
abbrev pub digest_alone : SeenMessage → Result Digest ReplyFault
digest_alone x = if x.kind == 0 && is_no_file x then some_or_bad x.digest else bad_reply

unfoldable pub bad_blob_of : EndMessage → Result RemoteCause ReplyFault
bad_blob_of x = do
  first ← some_or_bad x.first
  second ← some_or_bad x.second
  expected ← digest_alone first
  got ← digest_alone second
  Ok (remotes.BadBlob expected got)

unfoldable pub bad_result_of : EndMessage → Result RemoteCause ReplyFault
bad_result_of x = do
  fault ← result_fault_of x.value
  Ok (remotes.BadResult fault)

unfoldable pub remote_input_changed_of : EndMessage → Result RemoteCause ReplyFault
remote_input_changed_of x = do
  input ← changed_of x.path x.first x.second
  Ok (remotes.InputChanged input)

unfoldable pub wrong_version_of : EndMessage → Result RemoteCause ReplyFault
wrong_version_of x = do
  versions ← versions_of x.path
  Ok (remotes.WrongVersion versions.0 versions.1)

unfoldable pub remote_source_fault_of : EndMessage → Result RemoteCause ReplyFault
remote_source_fault_of x = do
  path ← own_path x.path
  Ok (remotes.SourceFault path)

-- 5 and 10 are written and not read
unfoldable pub remote_cause_of : EndMessage → Result RemoteCause ReplyFault
remote_cause_of x =
    if x.cause == 1 then call_failed_of x
    else if x.cause == 2 then bad_blob_of x
    else if x.cause == 3 then bad_result_of x
    else if x.cause == 4 then Ok remotes.OperationsSpent
    else if x.cause == 6 then remote_input_changed_of x
    else if x.cause == 8 then wrong_version_of x
    else if x.cause == 9 then remote_source_fault_of x
    else bad_reply

-- an exit code, in two's complement of 64 bits
unfoldable pub exit_of : ℕ → Result ℤ ReplyFault
exit_of value = if sign_extended (int32_of value) == value then Ok (int32_of value) else bad_reply

unfoldable pub non_zero_of : EndMessage → Result Failure ReplyFault
non_zero_of x = do
  exit ← exit_of x.value
  Ok (failures.NonZero exit)

unfoldable pub local_failure_of : EndMessage → Result Failure ReplyFault
local_failure_of x =
    if not (end_has_only (local_fields x.cause) x) then bad_reply
    else do
      cause ← local_cause_of x
      Ok (failures.Local cause)

unfoldable pub remote_failure_of : EndMessage → Result Failure ReplyFault
remote_failure_of x =
    if not (end_has_only (remote_fields x.cause) x) then bad_reply
    else if x.cause == 7 then non_zero_of x
    else do
      cause ← remote_cause_of x
      Ok (failures.Remote cause)

-- the end that a message is
unfoldable pub failure_of : EndMessage → Result Failure ReplyFault
failure_of x =
    if x.attempt == 1 then local_failure_of x
    else if x.attempt == 2 then remote_failure_of x
    else bad_reply
