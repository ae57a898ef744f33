-- Ends of attempts read of their messages.
use Rattle.std.proofs.Common.{◌≡◌, ℤ, Ok, refl, eq-eqb}
use Rattle.rx_wire.specs.Integers.{sign_extended}
use Rattle.rx_world.specs.declared.attempts.BenchStep.{BenchStep}
use Rattle.rx_world.specs.declared.attempts.BenchStep.TheVariants as steps
use Rattle.rx_world.specs.declared.attempts.Cause.{Cause}
use Rattle.rx_world.specs.declared.attempts.Cause.TheVariants as causes
use Rattle.rx_world.specs.declared.attempts.Failure.{Failure}
use Rattle.rx_world.specs.declared.attempts.Failure.TheVariants as failures
use Rattle.rx_world.specs.declared.refusals.OutputLimit.{OutputLimit}
use Rattle.rx_world.specs.declared.refusals.OutputLimit.TheVariants as limits
use Rattle.rx_world.specs.declared.remote_causes.RemoteCause.{RemoteCause}
use Rattle.rx_world.specs.declared.remote_causes.RemoteCause.TheVariants as remotes
use Rattle.rx_world.specs.declared.remote_causes.ResultFault.{ResultFault}
use Rattle.rx_world.specs.declared.remote_causes.ResultFault.TheVariants as results
use Rattle.rx_session.specs.Ends.{bad_blob_of, bad_result_of, bench_fault_of, call_failed_of, end_has_only, end_of, exit_of, failure_of, input_changed_of, local_cause_of, local_end, local_failure_of, non_zero_of, output_limit_number, output_limit_of, output_missing_of, output_too_large_of, remote_cause_of, remote_end, remote_failure_of, remote_input_changed_of, remote_source_fault_of, result_fault_number, result_fault_of, source_fault_of, step_number, step_of, wrong_version_of}
use Rattle.rx_session.specs.Seen.{is_no_file}
use Rattle.rx_session.specs.Told.{cause_is_readable, failure_is_readable, remote_cause_is_readable, told_failure, told_remote_cause}
use Rattle.rx_session.specs.Typed.{IsInt32, cause_is_typed, failure_is_typed, remote_cause_is_typed}
use Rattle.rx_session.proofs.FaultLemmas.{faults_again, some_packed}
use Rattle.rx_session.proofs.SeenLemmas.{changed_again}
use Rattle.rx_session.proofs.VersionLemmas.{versions_again}

step_again : (step : BenchStep) → step_of (step_number step) ≡ Ok step
step_again steps.Make = refl
step_again steps.MakeDir = refl
step_again steps.Put = refl
step_again steps.Run = refl
step_again steps.Take = refl

output_limit_again : (limit : OutputLimit) → output_limit_of (output_limit_number limit) ≡ Ok limit
output_limit_again limits.FileBytes = refl
output_limit_again limits.FilesBytes = refl
output_limit_again limits.TextBytes = refl

result_fault_again : (fault : ResultFault) → result_fault_of (result_fault_number fault) ≡ Ok fault
result_fault_again results.NoResult = refl
result_fault_again results.PathTwice = refl
result_fault_again results.OutputAbsent = refl
result_fault_again results.NoDigest = refl
result_fault_again results.TooLarge = refl

local_again : (cause : Cause) → cause_is_typed cause → cause_is_readable cause → local_failure_of (local_end cause) ≡ Ok (failures.Local cause)
unfolding local_failure_of end_has_only local_cause_of bench_fault_of output_missing_of input_changed_of output_too_large_of source_fault_of
local_again (causes.BenchFault step) typed can = rw (step_again step) refl
local_again (causes.OutputMissing path) typed can = rw typed refl
local_again (causes.InputChanged input) typed can = rw (changed_again input typed can.0) refl
local_again (causes.OutputTooLarge limit n) typed can = rw (output_limit_again limit) refl
local_again (causes.SourceFault path) typed can = rw typed refl
local_again (causes.Stopped decision) typed can = absurd can
local_again causes.NoMemory typed can = absurd can

remote_again : (cause : RemoteCause) → remote_cause_is_typed cause → remote_cause_is_readable cause → remote_failure_of (remote_end cause) ≡ Ok (failures.Remote (told_remote_cause cause))
unfolding remote_failure_of end_has_only remote_cause_of call_failed_of bad_blob_of bad_result_of remote_input_changed_of wrong_version_of remote_source_fault_of is_no_file
remote_again (remotes.CallFailed faults) typed can = rw (some_packed faults can.0, faults_again faults can.1) refl
remote_again (remotes.BadBlob expected got) typed can = refl
remote_again (remotes.BadResult fault) typed can = rw (result_fault_again fault) refl
remote_again remotes.OperationsSpent typed can = refl
remote_again (remotes.Stopped decision) typed can = absurd can
remote_again (remotes.InputChanged input) typed can = rw (changed_again input typed can.0) refl
remote_again (remotes.WrongVersion low high) typed can = rw (versions_again low high typed.0 typed.1) refl
remote_again (remotes.SourceFault path) typed can = rw typed refl
remote_again remotes.NoMemory typed can = absurd can

pub local_attempt : (cause : Cause) → (local_end cause).attempt ≡ 1
local_attempt (causes.BenchFault step) = refl
local_attempt (causes.OutputMissing path) = refl
local_attempt (causes.InputChanged input) = refl
local_attempt (causes.OutputTooLarge limit n) = refl
local_attempt (causes.SourceFault path) = refl
local_attempt (causes.Stopped decision) = refl
local_attempt causes.NoMemory = refl

pub remote_attempt : (cause : RemoteCause) → (remote_end cause).attempt ≡ 2
remote_attempt (remotes.CallFailed faults) = refl
remote_attempt (remotes.BadBlob expected got) = refl
remote_attempt (remotes.BadResult fault) = refl
remote_attempt remotes.OperationsSpent = refl
remote_attempt (remotes.Stopped decision) = refl
remote_attempt (remotes.InputChanged input) = refl
remote_attempt (remotes.WrongVersion low high) = refl
remote_attempt (remotes.SourceFault path) = refl
remote_attempt remotes.NoMemory = refl

exit_again : (exit : ℤ) → IsInt32 exit → exit_of (sign_extended exit) ≡ Ok exit
unfolding exit_of
exit_again exit typed = rw (typed, eq-eqb (sign_extended exit) (sign_extended exit) refl) refl

pub failure_again : (failure : Failure) → failure_is_typed failure → failure_is_readable failure → failure_of (end_of failure) ≡ Ok (told_failure failure)
unfolding failure_of remote_failure_of end_has_only non_zero_of
failure_again (failures.Local cause) typed can = rw (local_attempt cause) (local_again cause typed can)
failure_again (failures.Remote cause) typed can = rw (remote_attempt cause) (remote_again cause typed can)
failure_again (failures.NonZero exit) typed can = rw (exit_again exit typed) refl
