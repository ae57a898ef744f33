-- What a reply's message tells of it: which replies are read again as they were written, and what of a reply isn't told.
use Rattle.std.specs.Prelude.{◌≢◌, ◌≤◌, ℕ, List, [], ◌∷◌, map, Option, IfSome, IsSome, IsNone}
use Rattle.std.specs.List.{AllByRecursion}
use Rattle.rx_codec.specs.Digests.{digest_is_readable}
use Rattle.rx_world.specs.declared.attempts.Cause.{Cause}
use Rattle.rx_world.specs.declared.attempts.Cause.TheVariants as causes
use Rattle.rx_world.specs.declared.attempts.Failure.{Failure}
use Rattle.rx_world.specs.declared.attempts.Failure.TheVariants as failures
use Rattle.rx_world.specs.declared.looks.ChangedInput.{ChangedInput}
use Rattle.rx_world.specs.declared.refusals.Limit.{Limit}
use Rattle.rx_world.specs.declared.refusals.Limit.TheVariants as limits
use Rattle.rx_world.specs.declared.remote_causes.RemoteCause.{RemoteCause}
use Rattle.rx_world.specs.declared.remote_causes.RemoteCause.TheVariants as remotes
use Rattle.rx_session.specs.declared.replies.Reply.{Reply}
use Rattle.rx_session.specs.declared.replies.Reply.TheVariants as replies
use Rattle.rx_session.specs.CallFaults.{IsOfCall, told_fault}
use Rattle.rx_session.specs.Seen.{DigestsFit}

-- ---- what isn't told

-- of a fault of a call all but its number
abbrev pub told_remote_cause : RemoteCause → RemoteCause
told_remote_cause (remotes.CallFailed faults) = remotes.CallFailed (map told_fault faults)
told_remote_cause (remotes.BadBlob expected got) = remotes.BadBlob expected got
told_remote_cause (remotes.BadResult fault) = remotes.BadResult fault
told_remote_cause remotes.OperationsSpent = remotes.OperationsSpent
told_remote_cause (remotes.Stopped decision) = remotes.Stopped decision
told_remote_cause (remotes.InputChanged input) = remotes.InputChanged input
told_remote_cause (remotes.WrongVersion low high) = remotes.WrongVersion low high
told_remote_cause (remotes.SourceFault path) = remotes.SourceFault path
told_remote_cause remotes.NoMemory = remotes.NoMemory

abbrev pub told_failure : Failure → Failure
told_failure (failures.Local cause) = failures.Local cause
told_failure (failures.Remote cause) = failures.Remote (told_remote_cause cause)
told_failure (failures.NonZero exit) = failures.NonZero exit

-- a reply as its payload tells it
abbrev pub told : Reply → Reply
told (replies.Done exit stdout stderr origin receipt placed) = replies.Done exit stdout stderr origin receipt placed
told (replies.BadRequest bad) = replies.BadRequest bad
told (replies.NotRemotable cause) = replies.NotRemotable cause
told (replies.InputMissing path) = replies.InputMissing path
told (replies.InputChanged input) = replies.InputChanged input
told (replies.SourceFault path) = replies.SourceFault path
told (replies.TooLarge limit n path) = replies.TooLarge limit n path
told (replies.AllFailed ends) = replies.AllFailed (map told_failure ends)
told (replies.Cancelled reason) = replies.Cancelled reason
told (replies.PlaceFault receipt placed) = replies.PlaceFault receipt placed
told replies.JournalFull = replies.JournalFull
told replies.NoMemory = replies.NoMemory
told (replies.Blocked path) = replies.Blocked path
told (replies.InPlace cause) = replies.InPlace cause

-- ---- which replies are read again

-- digests where the looks are equal and only there, each with a size below 2^63
abbrev pub changed_is_readable : ChangedInput → Type 0
changed_is_readable input = DigestsFit input × IfSome input.first.digest digest_is_readable × IfSome input.second.digest digest_is_readable

-- no attempt that was stopped, or had no memory, is told as an end
abbrev pub cause_is_readable : Cause → Type 0
cause_is_readable (causes.BenchFault step) = Unit {0}
cause_is_readable (causes.OutputMissing path) = Unit {0}
cause_is_readable (causes.InputChanged input) = changed_is_readable input
cause_is_readable (causes.OutputTooLarge limit n) = Unit {0}
cause_is_readable (causes.SourceFault path) = Unit {0}
cause_is_readable (causes.Stopped decision) = ⊥
cause_is_readable causes.NoMemory = ⊥

-- nor here; and there is a fault of a call, and no want of memory stands among them
abbrev pub remote_cause_is_readable : RemoteCause → Type 0
remote_cause_is_readable (remotes.CallFailed faults) = (faults ≢ []) × AllByRecursion IsOfCall faults
remote_cause_is_readable (remotes.BadBlob expected got) = digest_is_readable expected × digest_is_readable got
remote_cause_is_readable (remotes.BadResult fault) = Unit {0}
remote_cause_is_readable remotes.OperationsSpent = Unit {0}
remote_cause_is_readable (remotes.Stopped decision) = ⊥
remote_cause_is_readable (remotes.InputChanged input) = changed_is_readable input
remote_cause_is_readable (remotes.WrongVersion low high) = Unit {0}
remote_cause_is_readable (remotes.SourceFault path) = Unit {0}
remote_cause_is_readable remotes.NoMemory = ⊥

abbrev pub failure_is_readable : Failure → Type 0
failure_is_readable (failures.Local cause) = cause_is_readable cause
failure_is_readable (failures.Remote cause) = remote_cause_is_readable cause
failure_is_readable (failures.NonZero exit) = Unit {0}

abbrev pub IsLocal : Failure → Type 0
IsLocal (failures.Local cause) = Unit {0}
IsLocal (failures.Remote cause) = ⊥
IsLocal (failures.NonZero exit) = ⊥

abbrev pub IsRemote : Failure → Type 0
IsRemote (failures.Local cause) = ⊥
IsRemote (failures.Remote cause) = Unit {0}
IsRemote (failures.NonZero exit) = Unit {0}

-- one or two ends, a local one before a remote one
abbrev pub AreEnds : List Failure → Type 0
AreEnds [] = ⊥
AreEnds (end ∷ []) = failure_is_readable end
AreEnds (end ∷ second ∷ []) = IsLocal end × IsRemote second × failure_is_readable end × failure_is_readable second
AreEnds (end ∷ second ∷ third ∷ ends) = ⊥

-- a path where one file passes the limit, and only there
abbrev pub PathFits : Limit → Option (List ℕ) → Type 0
PathFits limits.ScanFiles path = IsNone path
PathFits limits.FileBytes path = IsSome path
PathFits limits.ScanBytes path = IsNone path
PathFits limits.ListFiles path = IsNone path
PathFits limits.ListBytes path = IsNone path

-- receipts count from 1
abbrev pub reply_is_readable : Reply → Type 0
reply_is_readable (replies.Done exit stdout stderr origin receipt placed) = 1 ≤ receipt
reply_is_readable (replies.BadRequest bad) = Unit {0}
reply_is_readable (replies.NotRemotable cause) = Unit {0}
reply_is_readable (replies.InputMissing path) = Unit {0}
reply_is_readable (replies.InputChanged input) = changed_is_readable input
reply_is_readable (replies.SourceFault path) = Unit {0}
reply_is_readable (replies.TooLarge limit n path) = PathFits limit path
reply_is_readable (replies.AllFailed ends) = AreEnds ends
reply_is_readable (replies.Cancelled reason) = Unit {0}
reply_is_readable (replies.PlaceFault receipt placed) = 1 ≤ receipt
reply_is_readable replies.JournalFull = Unit {0}
reply_is_readable replies.NoMemory = Unit {0}
reply_is_readable (replies.Blocked path) = Unit {0}
reply_is_readable (replies.InPlace cause) = Unit {0}
