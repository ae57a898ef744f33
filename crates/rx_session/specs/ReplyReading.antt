-- Which reply a message is, and which payload.
use Rattle.std.specs.Prelude.{◌≡◌, ℕ, pos, ◌==◌, ◌&&◌, Bool, not, List, [], ◌∷◌, length, Option, None, Some, is_none, Result, Ok, Err, if◌then◌else◌}
use Rattle.std.specs.Ordering.{int_eq}
use Rattle.rx_base.specs.Results.{◌>>=◌}
use Rattle.rx_codec.specs.Decoding.{any_form, decoded}
use Rattle.rx_wire.specs.declared.faults.WireFault.{WireFault}
use Rattle.rx_world.specs.declared.attempts.Failure.{Failure}
use Rattle.rx_world.specs.declared.refusals.Limit.{Limit}
use Rattle.rx_world.specs.declared.refusals.Limit.TheVariants as limits
use Rattle.rx_world.specs.declared.refusals.LocalCause.{LocalCause}
use Rattle.rx_world.specs.declared.refusals.LocalCause.TheVariants as locals
use Rattle.rx_session.specs.declared.end_message.EndMessage.{EndMessage}
use Rattle.rx_session.specs.declared.in_place.InPlaceCause.TheVariants as places
use Rattle.rx_session.specs.declared.replies.Reply.{Reply}
use Rattle.rx_session.specs.declared.replies.Reply.TheVariants as replies
use Rattle.rx_session.specs.declared.reply_fault.ReplyFault.{ReplyFault}
use Rattle.rx_session.specs.declared.reply_fault.ReplyFault.TheVariants.{BadReply, NoMemory, Wire}
use Rattle.rx_session.specs.declared.reply_message.ReplyMessage.{ReplyMessage}
use Rattle.rx_session.specs.Ends.{allows, failure_of}
use Rattle.rx_session.specs.Packed.{packed_checked}
use Rattle.rx_session.specs.PathTexts.{own_path}
use Rattle.rx_session.specs.Replies.{cancel_of, limit_of, message_of, origin_of, reason_of}
use Rattle.rx_session.specs.ReplyFaults.{bad_reply, or_bad_reply}
use Rattle.rx_session.specs.ReplyMessages.{reply_message_from, reply_message_parts}
use Rattle.rx_session.specs.Seen.{changed_of}

-- of the fields 2 to 7 the message has none but these
unfoldable pub first_fields_are : List ℕ → ReplyMessage → Bool
first_fields_are numbers x =
    allows numbers 2 (int_eq x.exit (pos 0))
    && (allows numbers 3 (length x.stdout == 0)
    && (allows numbers 4 (length x.stderr == 0)
    && (allows numbers 5 (x.origin == 0)
    && (allows numbers 6 (x.receipt == 0)
    && allows numbers 7 (x.placed == 0)))))

-- and of the fields 8 to 13
unfoldable pub last_fields_are : List ℕ → ReplyMessage → Bool
last_fields_are numbers x =
    allows numbers 8 (x.reason == 0)
    && (allows numbers 9 (x.value == 0)
    && (allows numbers 10 (length x.path == 0)
    && (allows numbers 11 (is_none x.first)
    && (allows numbers 12 (is_none x.second)
    && allows numbers 13 (length x.ends == 0)))))

-- beside its kind, the message has no field but these
unfoldable pub reply_has_only : List ℕ → ReplyMessage → Bool
reply_has_only numbers x = first_fields_are numbers x && last_fields_are numbers x

-- the fields of each kind
abbrev pub reply_fields : ℕ → List ℕ
reply_fields kind =
    if kind == 0 then 2 ∷ 3 ∷ 4 ∷ 5 ∷ 6 ∷ 7 ∷ []
    else if kind == 1 then 8 ∷ 9 ∷ []
    else if kind == 2 then 8 ∷ 10 ∷ []
    else if kind == 3 then 10 ∷ []
    else if kind == 4 then 10 ∷ 11 ∷ 12 ∷ []
    else if kind == 5 then 10 ∷ []
    else if kind == 6 then 8 ∷ 9 ∷ 10 ∷ []
    else if kind == 7 then 13 ∷ []
    else if kind == 8 then 8 ∷ []
    else if kind == 9 then 6 ∷ 7 ∷ []
    else if kind == 12 then 10 ∷ []
    else if kind == 13 then 8 ∷ 9 ∷ 10 ∷ []
    else []

-- receipts count from 1
unfoldable pub receipt_of : ℕ → Result ℕ ReplyFault
receipt_of n = if n == 0 then bad_reply else Ok n

unfoldable pub done_of : ReplyMessage → Result Reply ReplyFault
done_of x = do
  origin ← origin_of x.origin
  receipt ← receipt_of x.receipt
  Ok (replies.Done x.exit x.stdout x.stderr origin receipt x.placed)

unfoldable pub bad_request_of : ReplyMessage → Result Reply ReplyFault
bad_request_of x = do
  reason ← reason_of x.reason
  Ok (replies.BadRequest (record { reason = reason; value = x.value }))

unfoldable pub path_cause_of : ReplyMessage → Result LocalCause ReplyFault
path_cause_of x = do
  path ← own_path x.path
  Ok (locals.Path path)

-- reason 1 and a word, or reason 2 and a path
unfoldable pub reply_local_cause_of : ReplyMessage → Result LocalCause ReplyFault
reply_local_cause_of x =
    if x.reason == 1 then Ok (locals.Word x.path)
    else if x.reason == 2 then path_cause_of x
    else bad_reply

unfoldable pub not_remotable_of : ReplyMessage → Result Reply ReplyFault
not_remotable_of x = do
  cause ← reply_local_cause_of x
  Ok (replies.NotRemotable cause)

unfoldable pub input_missing_of : ReplyMessage → Result Reply ReplyFault
input_missing_of x = do
  path ← own_path x.path
  Ok (replies.InputMissing path)

unfoldable pub reply_input_changed_of : ReplyMessage → Result Reply ReplyFault
reply_input_changed_of x = do
  input ← changed_of x.path x.first x.second
  Ok (replies.InputChanged input)

unfoldable pub reply_source_fault_of : ReplyMessage → Result Reply ReplyFault
reply_source_fault_of x = do
  path ← own_path x.path
  Ok (replies.SourceFault path)

unfoldable pub some_path_of : List ℕ → Result (Option (List ℕ)) ReplyFault
some_path_of text = do
  path ← own_path text
  Ok (Some path)

abbrev pub no_path_of : List ℕ → Result (Option (List ℕ)) ReplyFault
no_path_of text = if length text == 0 then Ok None else bad_reply

-- one file passes the limit of a file's bytes, and its path is told; all files together pass the other limits
abbrev pub limit_path_of : Limit → List ℕ → Result (Option (List ℕ)) ReplyFault
limit_path_of limits.ScanFiles text = no_path_of text
limit_path_of limits.FileBytes text = some_path_of text
limit_path_of limits.ScanBytes text = no_path_of text
limit_path_of limits.ListFiles text = no_path_of text
limit_path_of limits.ListBytes text = no_path_of text

unfoldable pub too_large_of : ReplyMessage → Result Reply ReplyFault
too_large_of x = do
  limit ← limit_of x.reason
  path ← limit_path_of limit x.path
  Ok (replies.TooLarge limit x.value path)

unfoldable pub one_failure : EndMessage → Result (List Failure) ReplyFault
one_failure x = do
  failure ← failure_of x
  Ok (failure ∷ [])

unfoldable pub two_failures : EndMessage → EndMessage → Result (List Failure) ReplyFault
two_failures x y = do
  failure ← failure_of x
  second ← failure_of y
  Ok (failure ∷ second ∷ [])

-- one end, or one of a local attempt and then one of a remote one
unfoldable pub failures_of : List EndMessage → Result (List Failure) ReplyFault
failures_of (x ∷ []) = one_failure x
failures_of (x ∷ y ∷ []) = if x.attempt == 1 && y.attempt == 2 then two_failures x y else bad_reply
failures_of [] = bad_reply
failures_of (x ∷ y ∷ z ∷ others) = bad_reply

unfoldable pub all_failed_of : ReplyMessage → Result Reply ReplyFault
all_failed_of x = do
  failures ← failures_of x.ends
  Ok (replies.AllFailed failures)

unfoldable pub cancelled_of : ReplyMessage → Result Reply ReplyFault
cancelled_of x = do
  reason ← cancel_of x.reason
  Ok (replies.Cancelled reason)

unfoldable pub place_fault_of : ReplyMessage → Result Reply ReplyFault
place_fault_of x = do
  receipt ← receipt_of x.receipt
  Ok (replies.PlaceFault receipt x.placed)

unfoldable pub blocked_of : ReplyMessage → Result Reply ReplyFault
blocked_of x = do
  path ← own_path x.path
  Ok (replies.Blocked path)

-- what keeps a command has no value beside its text
unfoldable pub kept_of : ReplyMessage → Result Reply ReplyFault
kept_of x =
    if not (x.value == 0) then bad_reply
    else do
      cause ← reply_local_cause_of x
      Ok (replies.InPlace (places.Kept cause))

-- a limit has no text beside its number
unfoldable pub limit_in_place_of : ReplyMessage → Result Reply ReplyFault
limit_in_place_of x =
    if not (length x.path == 0) then bad_reply
    else do
      limit ← limit_of x.value
      Ok (replies.InPlace (places.TooLarge limit))

-- reason 3 and a limit, or what keeps the command
unfoldable pub in_place_of : ReplyMessage → Result Reply ReplyFault
in_place_of x = if x.reason == 3 then limit_in_place_of x else kept_of x

unfoldable pub reply_by_kind : ReplyMessage → Result Reply ReplyFault
reply_by_kind x =
    if x.kind == 0 then done_of x
    else if x.kind == 1 then bad_request_of x
    else if x.kind == 2 then not_remotable_of x
    else if x.kind == 3 then input_missing_of x
    else if x.kind == 4 then reply_input_changed_of x
    else if x.kind == 5 then reply_source_fault_of x
    else if x.kind == 6 then too_large_of x
    else if x.kind == 7 then all_failed_of x
    else if x.kind == 8 then cancelled_of x
    else if x.kind == 9 then place_fault_of x
    else if x.kind == 10 then Ok replies.JournalFull
    else if x.kind == 11 then Ok replies.NoMemory
    else if x.kind == 12 then blocked_of x
    else if x.kind == 13 then in_place_of x
    else bad_reply

-- the reply that a message is
unfoldable pub reply_by : ReplyMessage → Result Reply ReplyFault
reply_by x = if not (reply_has_only (reply_fields x.kind) x) then bad_reply else reply_by_kind x

-- why a payload is no reply's: a packed number that is cut, or too long, is told by its place
abbrev pub refusal_by : Result (Unit {0}) WireFault → ReplyFault
refusal_by (Ok x) = BadReply
refusal_by (Err fault) = Wire fault

abbrev pub or_refusal : List ℕ → Result Reply ReplyFault → Result Reply ReplyFault
or_refusal payload (Ok reply) = Ok reply
or_refusal payload (Err BadReply) = Err (refusal_by (packed_checked payload))
or_refusal payload (Err (Wire fault)) = Err (Wire fault)
or_refusal payload (Err NoMemory) = Err NoMemory

-- the reply in a payload
unfoldable pub reply_of : List ℕ → Result Reply ReplyFault
reply_of payload = do
  message ← or_bad_reply (decoded reply_message_parts reply_message_from any_form payload)
  or_refusal payload (reply_by message)

-- the payload is a message whose fields are those of the reply
abbrev pub HasFields : List ℕ → Reply → Type 0
HasFields payload reply = decoded reply_message_parts reply_message_from any_form payload ≡ Ok (message_of reply)
