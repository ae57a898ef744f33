-- Replies and their messages: the numbers of both, and which message is written for a reply.
use Rattle.std.specs.Prelude.{ℕ, ℤ, pos, ◌==◌, List, [], map, Option, None, Some, Result, Ok, if◌then◌else◌}
use Rattle.rx_codec.specs.FieldBytes.{fields_bytes}
use Rattle.rx_world.specs.declared.attempts.Failure.{Failure}
use Rattle.rx_world.specs.declared.attempts.Origin.{Origin}
use Rattle.rx_world.specs.declared.attempts.Origin.TheVariants as origins
use Rattle.rx_world.specs.declared.looks.ChangedInput.{ChangedInput}
use Rattle.rx_world.specs.declared.refusals.Limit.{Limit}
use Rattle.rx_world.specs.declared.refusals.Limit.TheVariants as limits
use Rattle.rx_world.specs.declared.refusals.LocalCause.{LocalCause}
use Rattle.rx_world.specs.declared.refusals.LocalCause.TheVariants as locals
use Rattle.rx_session.specs.declared.bad.Bad.{Bad}
use Rattle.rx_session.specs.declared.bad.BadReason.{BadReason}
use Rattle.rx_session.specs.declared.bad.BadReason.TheVariants as reasons
use Rattle.rx_session.specs.declared.cancels.CancelReason.{CancelReason}
use Rattle.rx_session.specs.declared.cancels.CancelReason.TheVariants as cancels
use Rattle.rx_session.specs.declared.in_place.InPlaceCause.{InPlaceCause}
use Rattle.rx_session.specs.declared.in_place.InPlaceCause.TheVariants as places
use Rattle.rx_session.specs.declared.replies.Reply.{Reply}
use Rattle.rx_session.specs.declared.replies.Reply.TheVariants as replies
use Rattle.rx_session.specs.declared.reply_fault.ReplyFault.{ReplyFault}
use Rattle.rx_session.specs.declared.reply_message.ReplyMessage.{ReplyMessage}
use Rattle.rx_session.specs.Bad.{reason_number}
use Rattle.rx_session.specs.Ends.{end_of}
use Rattle.rx_session.specs.Frames.{frame}
use Rattle.rx_session.specs.ReplyFaults.{bad_reply}
use Rattle.rx_session.specs.ReplyMessages.{reply_message_fields}
use Rattle.rx_session.specs.Seen.{seen_message}

-- ---- numbers

abbrev pub origin_number : Origin → ℕ
origin_number origins.Local = 1
origin_number origins.Remote = 2
origin_number origins.Cache = 3

abbrev pub origin_of : ℕ → Result Origin ReplyFault
origin_of n =
    if n == 1 then Ok origins.Local
    else if n == 2 then Ok origins.Remote
    else if n == 3 then Ok origins.Cache
    else bad_reply

abbrev pub limit_number : Limit → ℕ
limit_number limits.ScanFiles = 1
limit_number limits.FileBytes = 2
limit_number limits.ScanBytes = 3
limit_number limits.ListFiles = 4
limit_number limits.ListBytes = 5

abbrev pub limit_of : ℕ → Result Limit ReplyFault
limit_of n =
    if n == 1 then Ok limits.ScanFiles
    else if n == 2 then Ok limits.FileBytes
    else if n == 3 then Ok limits.ScanBytes
    else if n == 4 then Ok limits.ListFiles
    else if n == 5 then Ok limits.ListBytes
    else bad_reply

abbrev pub reason_of : ℕ → Result BadReason ReplyFault
reason_of n =
    if n == 1 then Ok reasons.CutShort
    else if n == 2 then Ok reasons.TooLong
    else if n == 3 then Ok reasons.BadKind
    else if n == 4 then Ok reasons.BadMessage
    else if n == 5 then Ok reasons.UnknownVersion
    else if n == 6 then Ok reasons.WrongRoot
    else if n == 7 then Ok reasons.BadField
    else if n == 8 then Ok reasons.Trailing
    else if n == 9 then Ok reasons.NotBuilt
    else bad_reply

abbrev pub cancel_number : CancelReason → ℕ
cancel_number cancels.Asked = 1
cancel_number cancels.Ended = 2
cancel_number cancels.OtherBytes = 3
cancel_number cancels.Lost = 4

abbrev pub cancel_of : ℕ → Result CancelReason ReplyFault
cancel_of n =
    if n == 1 then Ok cancels.Asked
    else if n == 2 then Ok cancels.Ended
    else if n == 3 then Ok cancels.OtherBytes
    else if n == 4 then Ok cancels.Lost
    else bad_reply

-- ---- written

-- a reply of this kind that says nothing more
abbrev pub bare_reply : ℕ → ReplyMessage
bare_reply kind = record {
  kind = kind;
  exit = pos 0;
  stdout = [];
  stderr = [];
  origin = 0;
  receipt = 0;
  placed = 0;
  reason = 0;
  value = 0;
  path = [];
  first = None;
  second = None;
  ends = [];
}

-- a reason and its value
abbrev pub bad_request_message : Bad → ReplyMessage
bad_request_message bad = record (bare_reply 1) { reason = reason_number bad.reason; value = bad.value }

abbrev pub cancelled_message : CancelReason → ReplyMessage
cancelled_message reason = record (bare_reply 8) { reason = cancel_number reason }

abbrev pub path_reply : ℕ → List ℕ → ReplyMessage
path_reply kind path = record (bare_reply kind) { path = path }

-- reason 1 and a word, or reason 2 and a path
abbrev pub local_cause_message : ℕ → LocalCause → ReplyMessage
local_cause_message kind (locals.Word word) = record (bare_reply kind) { reason = 1; path = word }
local_cause_message kind (locals.Path path) = record (bare_reply kind) { reason = 2; path = path }

-- that, or reason 3 and the limit's number as the value
abbrev pub in_place_message : InPlaceCause → ReplyMessage
in_place_message (places.Kept cause) = local_cause_message 13 cause
in_place_message (places.TooLarge limit) = record (bare_reply 13) { reason = 3; value = limit_number limit }

abbrev pub path_or_none : Option (List ℕ) → List ℕ
path_or_none None = []
path_or_none (Some path) = path

abbrev pub exit_message : ℤ → List ℕ → List ℕ → ReplyMessage
exit_message exit stdout stderr = record (bare_reply 0) { exit = exit; stdout = stdout; stderr = stderr }

abbrev pub input_changed_message : ChangedInput → ReplyMessage
input_changed_message input =
    record (path_reply 4 input.path) { first = Some (seen_message input.first); second = Some (seen_message input.second) }

abbrev pub too_large_message : Limit → ℕ → Option (List ℕ) → ReplyMessage
too_large_message limit n path = record (bare_reply 6) { reason = limit_number limit; value = n; path = path_or_none path }

abbrev pub all_failed_message : List Failure → ReplyMessage
all_failed_message failures = record (bare_reply 7) { ends = map end_of failures }

-- the message of a reply
abbrev pub message_of : Reply → ReplyMessage
message_of (replies.Done exit stdout stderr origin receipt placed) =
    record (exit_message exit stdout stderr) { origin = origin_number origin; receipt = receipt; placed = placed }
message_of (replies.BadRequest bad) = bad_request_message bad
message_of (replies.NotRemotable cause) = local_cause_message 2 cause
message_of (replies.InputMissing path) = path_reply 3 path
message_of (replies.InputChanged input) = input_changed_message input
message_of (replies.SourceFault path) = path_reply 5 path
message_of (replies.TooLarge limit n path) = too_large_message limit n path
message_of (replies.AllFailed failures) = all_failed_message failures
message_of (replies.Cancelled reason) = cancelled_message reason
message_of (replies.PlaceFault receipt placed) = record (bare_reply 9) { receipt = receipt; placed = placed }
message_of replies.JournalFull = bare_reply 10
message_of replies.NoMemory = bare_reply 11
message_of (replies.Blocked path) = path_reply 12 path
message_of (replies.InPlace cause) = in_place_message cause

-- the payload of a reply: the fields of its message in the order of their numbers, defaults left out
unfoldable pub payload_of : Reply → List ℕ
payload_of reply = fields_bytes (reply_message_fields (message_of reply))

-- the frame of a reply: kind 2
abbrev pub frame_of : Reply → List ℕ
frame_of reply = frame 2 (payload_of reply)
