-- What the types of a reply's parts say of them: a path is read of its own text, and signed numbers have 32 bits.
use Rattle.std.specs.Prelude.{◌≡◌, ℕ, ℤ, List, IfSome, Ok, FitsSigned}
use Rattle.std.specs.Int.{w32}
use Rattle.std.specs.List.{AllByRecursion}
use Rattle.rx_wire.specs.Integers.{int32_of, sign_extended}
use Rattle.rx_world.specs.declared.attempts.Cause.{Cause}
use Rattle.rx_world.specs.declared.attempts.Cause.TheVariants as causes
use Rattle.rx_world.specs.declared.attempts.Failure.{Failure}
use Rattle.rx_world.specs.declared.attempts.Failure.TheVariants as failures
use Rattle.rx_world.specs.declared.refusals.LocalCause.{LocalCause}
use Rattle.rx_world.specs.declared.refusals.LocalCause.TheVariants as locals
use Rattle.rx_world.specs.declared.remote_causes.RemoteCause.{RemoteCause}
use Rattle.rx_world.specs.declared.remote_causes.RemoteCause.TheVariants as remotes
use Rattle.rx_world.specs.declared.versions.SemVer.{SemVer}
use Rattle.rx_session.specs.declared.in_place.InPlaceCause.{InPlaceCause}
use Rattle.rx_session.specs.declared.in_place.InPlaceCause.TheVariants as places
use Rattle.rx_session.specs.declared.replies.Reply.{Reply}
use Rattle.rx_session.specs.declared.replies.Reply.TheVariants as replies
use Rattle.rx_session.specs.PathTexts.{own_path}

abbrev pub IsOwn : List ℕ → Type 0
IsOwn path = own_path path ≡ Ok path

abbrev pub IsInt32 : ℤ → Type 0
IsInt32 n = int32_of (sign_extended n) ≡ n

abbrev pub AreInt32 : SemVer → Type 0
AreInt32 version = FitsSigned w32 version.major × FitsSigned w32 version.minor × FitsSigned w32 version.patch

abbrev pub cause_is_typed : Cause → Type 0
cause_is_typed (causes.BenchFault step) = Unit {0}
cause_is_typed (causes.OutputMissing path) = IsOwn path
cause_is_typed (causes.InputChanged input) = IsOwn input.path
cause_is_typed (causes.OutputTooLarge limit n) = Unit {0}
cause_is_typed (causes.SourceFault path) = IsOwn path
cause_is_typed (causes.Stopped decision) = Unit {0}
cause_is_typed causes.NoMemory = Unit {0}

abbrev pub remote_cause_is_typed : RemoteCause → Type 0
remote_cause_is_typed (remotes.CallFailed faults) = Unit {0}
remote_cause_is_typed (remotes.BadBlob expected got) = Unit {0}
remote_cause_is_typed (remotes.BadResult fault) = Unit {0}
remote_cause_is_typed remotes.OperationsSpent = Unit {0}
remote_cause_is_typed (remotes.Stopped decision) = Unit {0}
remote_cause_is_typed (remotes.InputChanged input) = IsOwn input.path
remote_cause_is_typed (remotes.WrongVersion low high) = AreInt32 low × AreInt32 high
remote_cause_is_typed (remotes.SourceFault path) = IsOwn path
remote_cause_is_typed remotes.NoMemory = Unit {0}

abbrev pub failure_is_typed : Failure → Type 0
failure_is_typed (failures.Local cause) = cause_is_typed cause
failure_is_typed (failures.Remote cause) = remote_cause_is_typed cause
failure_is_typed (failures.NonZero exit) = IsInt32 exit

abbrev pub local_cause_is_typed : LocalCause → Type 0
local_cause_is_typed (locals.Word word) = Unit {0}
local_cause_is_typed (locals.Path path) = IsOwn path

abbrev pub in_place_is_typed : InPlaceCause → Type 0
in_place_is_typed (places.Kept cause) = local_cause_is_typed cause
in_place_is_typed (places.TooLarge limit) = Unit {0}

abbrev pub reply_is_typed : Reply → Type 0
reply_is_typed (replies.Done exit stdout stderr origin receipt placed) = Unit {0}
reply_is_typed (replies.BadRequest bad) = Unit {0}
reply_is_typed (replies.NotRemotable cause) = local_cause_is_typed cause
reply_is_typed (replies.InputMissing path) = IsOwn path
reply_is_typed (replies.InputChanged input) = IsOwn input.path
reply_is_typed (replies.SourceFault path) = IsOwn path
reply_is_typed (replies.TooLarge limit n path) = IfSome path IsOwn
reply_is_typed (replies.AllFailed ends) = AllByRecursion failure_is_typed ends
reply_is_typed (replies.Cancelled reason) = Unit {0}
reply_is_typed (replies.PlaceFault receipt placed) = Unit {0}
reply_is_typed replies.JournalFull = Unit {0}
reply_is_typed replies.NoMemory = Unit {0}
reply_is_typed (replies.Blocked path) = IsOwn path
reply_is_typed (replies.InPlace cause) = in_place_is_typed cause
