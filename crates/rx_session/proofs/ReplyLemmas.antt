-- Replies read of their messages.
use Rattle.std.proofs.Common.{◌≡◌, ℕ, ◌≤◌, ◌==◌, true, false, List, [], ◌∷◌, map, Option, None, Some, Ok, refl, arith, eq-eqb, subst}
use Rattle.std.specs.Prelude.{Err, IfOk, IfSome, Result}
use Rattle.std.specs.List.{AllByRecursion}
use Rattle.std.proofs.lemmas.Bool.{ne_eqb}
use Rattle.rx_codec.specs.Decoding.{any_form, decoded}
use Rattle.rx_world.specs.declared.attempts.Failure.{Failure}
use Rattle.rx_world.specs.declared.attempts.Failure.TheVariants as failures
use Rattle.rx_world.specs.declared.attempts.Origin.{Origin}
use Rattle.rx_world.specs.declared.attempts.Origin.TheVariants as origins
use Rattle.rx_world.specs.declared.refusals.Limit.{Limit}
use Rattle.rx_world.specs.declared.refusals.Limit.TheVariants as limits
use Rattle.rx_world.specs.declared.refusals.LocalCause.TheVariants as locals
use Rattle.rx_session.specs.declared.bad.BadReason.{BadReason}
use Rattle.rx_session.specs.declared.bad.BadReason.TheVariants as reasons
use Rattle.rx_session.specs.declared.cancels.CancelReason.{CancelReason}
use Rattle.rx_session.specs.declared.cancels.CancelReason.TheVariants as cancels
use Rattle.rx_session.specs.declared.in_place.InPlaceCause.TheVariants as places
use Rattle.rx_session.specs.declared.replies.Reply.{Reply}
use Rattle.rx_session.specs.declared.replies.Reply.TheVariants as replies
use Rattle.rx_session.specs.declared.reply_message.ReplyMessage.{ReplyMessage}
use Rattle.rx_session.specs.Bad.{reason_number}
use Rattle.rx_session.specs.Ends.{end_of}
use Rattle.rx_session.specs.Replies.{cancel_number, cancel_of, limit_number, limit_of, message_of, origin_number, origin_of, path_or_none, reason_of}
use Rattle.rx_session.specs.ReplyReading.{HasFields, all_failed_of, bad_request_of, blocked_of, cancelled_of, done_of, failures_of, first_fields_are, in_place_of, input_missing_of, kept_of, last_fields_are, limit_in_place_of, limit_path_of, reply_local_cause_of, not_remotable_of, one_failure, path_cause_of, place_fault_of, receipt_of, reply_by, reply_by_kind, reply_has_only, reply_input_changed_of, reply_of, reply_source_fault_of, some_path_of, too_large_of, two_failures}
use Rattle.rx_session.specs.ReplyMessages.{reply_message_from, reply_message_is_readable, reply_message_parts}
use Rattle.rx_session.specs.Told.{AreEnds, IsLocal, IsRemote, PathFits, reply_is_readable, told, told_failure}
use Rattle.rx_session.specs.Typed.{IsOwn, failure_is_typed, reply_is_typed}
use Rattle.rx_session.proofs.EndLemmas.{failure_again, local_attempt, remote_attempt}
use Rattle.rx_session.proofs.ReadableLemmas.{message_is_readable}
use Rattle.rx_session.proofs.SeenLemmas.{changed_again}

origin_again : (origin : Origin) → origin_of (origin_number origin) ≡ Ok origin
origin_again origins.Local = refl
origin_again origins.Remote = refl
origin_again origins.Cache = refl

limit_again : (limit : Limit) → limit_of (limit_number limit) ≡ Ok limit
limit_again limits.ScanFiles = refl
limit_again limits.FileBytes = refl
limit_again limits.ScanBytes = refl
limit_again limits.ListFiles = refl
limit_again limits.ListBytes = refl

reason_again : (reason : BadReason) → reason_of (reason_number reason) ≡ Ok reason
reason_again reasons.CutShort = refl
reason_again reasons.TooLong = refl
reason_again reasons.BadKind = refl
reason_again reasons.BadMessage = refl
reason_again reasons.UnknownVersion = refl
reason_again reasons.WrongRoot = refl
reason_again reasons.BadField = refl
reason_again reasons.Trailing = refl
reason_again reasons.NotBuilt = refl

cancel_again : (reason : CancelReason) → cancel_of (cancel_number reason) ≡ Ok reason
cancel_again cancels.Asked = refl
cancel_again cancels.Ended = refl
cancel_again cancels.OtherBytes = refl
cancel_again cancels.Lost = refl

receipt_again : (receipt : ℕ) → 1 ≤ receipt → receipt_of receipt ≡ Ok receipt
unfolding receipt_of
receipt_again receipt le =
    let some : (receipt == 0) ≡ false = ne_eqb receipt 0 (λ e. omega arith) in
    rw some refl

limit_path_again : (limit : Limit) (path : Option (List ℕ)) → PathFits limit path → IfSome path IsOwn → limit_path_of limit (path_or_none path) ≡ Ok path
unfolding some_path_of
limit_path_again limits.ScanFiles None fits own = refl
limit_path_again limits.ScanFiles (Some path) fits own = absurd (cc fits)
limit_path_again limits.FileBytes (Some path) fits own = rw own refl
limit_path_again limits.FileBytes None fits own = absurd (cc fits)
limit_path_again limits.ScanBytes None fits own = refl
limit_path_again limits.ScanBytes (Some path) fits own = absurd (cc fits)
limit_path_again limits.ListFiles None fits own = refl
limit_path_again limits.ListFiles (Some path) fits own = absurd (cc fits)
limit_path_again limits.ListBytes None fits own = refl
limit_path_again limits.ListBytes (Some path) fits own = absurd (cc fits)

-- ---- ends

is_local : (failure : Failure) → IsLocal failure → ((end_of failure).attempt == 1) ≡ true
is_local (failures.Local cause) h = eq-eqb _ 1 (local_attempt cause)
is_local (failures.Remote cause) h = absurd h
is_local (failures.NonZero exit) h = absurd h

is_remote : (failure : Failure) → IsRemote failure → ((end_of failure).attempt == 2) ≡ true
is_remote (failures.Local cause) h = absurd h
is_remote (failures.Remote cause) h = eq-eqb _ 2 (remote_attempt cause)
is_remote (failures.NonZero exit) h = refl

failures_again : (ends : List Failure) → AllByRecursion failure_is_typed ends → AreEnds ends → failures_of (map end_of ends) ≡ Ok (map told_failure ends)
unfolding failures_of one_failure two_failures
failures_again [] typed can = absurd can
failures_again (end ∷ []) typed can = rw (failure_again end typed.0 can) refl
failures_again (end ∷ second ∷ []) typed can =
    rw (is_local end can.0, is_remote second can.1, failure_again end typed.0 can.2, failure_again second typed.1.0 can.3) refl
failures_again (end ∷ second ∷ third ∷ ends) typed can = absurd can

-- ---- replies

pub reply_again : (reply : Reply) → reply_is_typed reply → reply_is_readable reply → reply_by (message_of reply) ≡ Ok (told reply)
unfolding reply_by reply_has_only first_fields_are last_fields_are reply_by_kind done_of bad_request_of not_remotable_of path_cause_of input_missing_of reply_input_changed_of reply_source_fault_of too_large_of all_failed_of cancelled_of place_fault_of blocked_of reply_local_cause_of in_place_of kept_of limit_in_place_of
reply_again (replies.Done exit stdout stderr origin receipt placed) typed can = rw (origin_again origin, receipt_again receipt can) refl
reply_again (replies.BadRequest bad) typed can = rw (reason_again bad.reason) refl
reply_again (replies.NotRemotable (locals.Word word)) typed can = refl
reply_again (replies.NotRemotable (locals.Path path)) typed can = rw typed refl
reply_again (replies.InputMissing path) typed can = rw typed refl
reply_again (replies.InputChanged input) typed can = rw (changed_again input typed can.0) refl
reply_again (replies.SourceFault path) typed can = rw typed refl
reply_again (replies.TooLarge limit n path) typed can = rw (limit_again limit, limit_path_again limit path can typed) refl
reply_again (replies.AllFailed ends) typed can = rw (failures_again ends typed can) refl
reply_again (replies.Cancelled reason) typed can = rw (cancel_again reason) refl
reply_again (replies.PlaceFault receipt placed) typed can = rw (receipt_again receipt can) refl
reply_again replies.JournalFull typed can = refl
reply_again replies.NoMemory typed can = refl
reply_again (replies.Blocked path) typed can = rw typed refl
reply_again (replies.InPlace (places.Kept (locals.Word word))) typed can = refl
reply_again (replies.InPlace (places.Kept (locals.Path path))) typed can = rw typed refl
reply_again (replies.InPlace (places.TooLarge limit)) typed can = rw (limit_again limit) refl

-- a payload that its message is read of again
pub payload_again : (reply : Reply) (message : ReplyMessage) (payload : List ℕ) → message ≡ message_of reply → reply_is_typed reply
    → (reply_message_is_readable message → decoded reply_message_parts reply_message_from any_form payload ≡ Ok message)
    → reply_is_readable reply → reply_of payload ≡ Ok (told reply)
unfolding reply_of
payload_again reply message payload e typed read can =
    let again : reply_message_is_readable (message_of reply) → decoded reply_message_parts reply_message_from any_form payload ≡ Ok (message_of reply) =
    subst (λ m. reply_message_is_readable m → decoded reply_message_parts reply_message_from any_form payload ≡ Ok m) e read in
    rw (again (message_is_readable reply can), reply_again reply typed can) refl

pub payloads_again : {X E : Type 0} (view : X → List ℕ) (r : Result X E) (reply : Reply) (message : ReplyMessage) → message ≡ message_of reply → reply_is_typed reply
    → IfOk r (λ x. reply_message_is_readable message → decoded reply_message_parts reply_message_from any_form (view x) ≡ Ok message)
    → IfOk r (λ x. reply_is_readable reply → reply_of (view x) ≡ Ok (told reply))
payloads_again view (Ok x) reply message e typed read = payload_again reply message (view x) e typed read
payloads_again view (Err fault) reply message e typed read = tt

-- a payload with the fields of a reply
pub fields_again : (reply : Reply) (payload : List ℕ) → HasFields payload reply → reply_is_typed reply → reply_is_readable reply → reply_of payload ≡ Ok (told reply)
unfolding reply_of
fields_again reply payload fields typed can = rw (fields, reply_again reply typed can) refl
