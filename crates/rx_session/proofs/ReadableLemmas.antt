-- A reply that is read again has a message that is.
use Rattle.std.proofs.Common.{List, [], ◌∷◌, map}
use Rattle.std.specs.List.{AllByRecursion}
use Rattle.rx_world.specs.declared.attempts.Cause.{Cause}
use Rattle.rx_world.specs.declared.attempts.Cause.TheVariants as causes
use Rattle.rx_world.specs.declared.attempts.Failure.{Failure}
use Rattle.rx_world.specs.declared.attempts.Failure.TheVariants as failures
use Rattle.rx_world.specs.declared.refusals.LocalCause.TheVariants as locals
use Rattle.rx_world.specs.declared.remote_causes.RemoteCause.{RemoteCause}
use Rattle.rx_world.specs.declared.remote_causes.RemoteCause.TheVariants as remotes
use Rattle.rx_session.specs.declared.in_place.InPlaceCause.TheVariants as places
use Rattle.rx_session.specs.declared.replies.Reply.{Reply}
use Rattle.rx_session.specs.declared.replies.Reply.TheVariants as replies
use Rattle.rx_session.specs.Ends.{end_of, local_end, remote_end}
use Rattle.rx_session.specs.Replies.{message_of}
use Rattle.rx_session.specs.ReplyMessages.{end_message_is_readable, reply_message_is_readable}
use Rattle.rx_session.specs.Told.{AreEnds, cause_is_readable, failure_is_readable, remote_cause_is_readable, reply_is_readable}

local_is_readable : (cause : Cause) → cause_is_readable cause → end_message_is_readable (local_end cause)
local_is_readable (causes.BenchFault step) can = (tt, tt)
local_is_readable (causes.OutputMissing path) can = (tt, tt)
local_is_readable (causes.InputChanged input) can = (can.1, can.2)
local_is_readable (causes.OutputTooLarge limit n) can = (tt, tt)
local_is_readable (causes.SourceFault path) can = (tt, tt)
local_is_readable (causes.Stopped decision) can = (tt, tt)
local_is_readable causes.NoMemory can = (tt, tt)

remote_is_readable : (cause : RemoteCause) → remote_cause_is_readable cause → end_message_is_readable (remote_end cause)
remote_is_readable (remotes.CallFailed faults) can = (tt, tt)
remote_is_readable (remotes.BadBlob expected got) can = (can.0, can.1)
remote_is_readable (remotes.BadResult fault) can = (tt, tt)
remote_is_readable remotes.OperationsSpent can = (tt, tt)
remote_is_readable (remotes.Stopped decision) can = (tt, tt)
remote_is_readable (remotes.InputChanged input) can = (can.1, can.2)
remote_is_readable (remotes.WrongVersion low high) can = (tt, tt)
remote_is_readable (remotes.SourceFault path) can = (tt, tt)
remote_is_readable remotes.NoMemory can = (tt, tt)

end_is_readable : (failure : Failure) → failure_is_readable failure → end_message_is_readable (end_of failure)
end_is_readable (failures.Local cause) can = local_is_readable cause can
end_is_readable (failures.Remote cause) can = remote_is_readable cause can
end_is_readable (failures.NonZero exit) can = (tt, tt)

ends_are_readable : (ends : List Failure) → AreEnds ends → AllByRecursion end_message_is_readable (map end_of ends)
ends_are_readable [] can = absurd can
ends_are_readable (end ∷ []) can = (end_is_readable end can, tt)
ends_are_readable (end ∷ second ∷ []) can = (end_is_readable end can.2, (end_is_readable second can.3, tt))
ends_are_readable (end ∷ second ∷ third ∷ ends) can = absurd can

pub message_is_readable : (reply : Reply) → reply_is_readable reply → reply_message_is_readable (message_of reply)
message_is_readable (replies.Done exit stdout stderr origin receipt placed) can = (tt, tt, tt)
message_is_readable (replies.BadRequest bad) can = (tt, tt, tt)
message_is_readable (replies.NotRemotable (locals.Word word)) can = (tt, tt, tt)
message_is_readable (replies.NotRemotable (locals.Path path)) can = (tt, tt, tt)
message_is_readable (replies.InputMissing path) can = (tt, tt, tt)
message_is_readable (replies.InputChanged input) can = (can.1, can.2, tt)
message_is_readable (replies.SourceFault path) can = (tt, tt, tt)
message_is_readable (replies.TooLarge limit n path) can = (tt, tt, tt)
message_is_readable (replies.AllFailed ends) can = (tt, tt, ends_are_readable ends can)
message_is_readable (replies.Cancelled reason) can = (tt, tt, tt)
message_is_readable (replies.PlaceFault receipt placed) can = (tt, tt, tt)
message_is_readable replies.JournalFull can = (tt, tt, tt)
message_is_readable replies.NoMemory can = (tt, tt, tt)
message_is_readable (replies.Blocked path) can = (tt, tt, tt)
message_is_readable (replies.InPlace (places.Kept (locals.Word word))) can = (tt, tt, tt)
message_is_readable (replies.InPlace (places.Kept (locals.Path path))) can = (tt, tt, tt)
message_is_readable (replies.InPlace (places.TooLarge limit)) can = (tt, tt, tt)
