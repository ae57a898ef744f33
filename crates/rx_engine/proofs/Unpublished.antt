-- Answers that tell of no publication.
use Rattle.std.proofs.Common.{◌≡◌, ◌⊎◌, Bool, true, false, List, inl, inr, sym, ◌∙◌}
use Rattle.std.specs.Prelude.{Err, IfOk, IfSome, None, Ok, Option, Result, Some}
use Rattle.rx_scan.specs.declared.gather_fault.GatherFault.{GatherFault}
use Rattle.rx_scan.specs.declared.gather_fault.GatherFault.TheVariants as fault
use Rattle.rx_session.specs.declared.bad.Bad.{Bad}
use Rattle.rx_session.specs.declared.cancels.CancelReason.{CancelReason}
use Rattle.rx_session.specs.declared.in_place.InPlaceCause.TheVariants as in_place
use Rattle.rx_session.specs.declared.replies.Reply.{Reply}
use Rattle.rx_session.specs.declared.replies.Reply.TheVariants as reply
use Rattle.rx_world.specs.declared.attempts.Ended.{Ended}
use Rattle.rx_engine.specs.declared.answered.Answered.{Answered}
use Rattle.rx_engine.specs.Answered.{AnswersFault, IsPlain, IsUnpublished, IsUnpublishedEnd, bad_request, reply_no_memory}
use Rattle.rx_engine.specs.Ready.{IsOrGivenUp}

plain-one : (answer : Reply) (a : Answered) → (answer ≡ reply.JournalFull → ⊥) → IsPlain answer a → IsUnpublished a
plain-one answer a other h = record { receipt_is = h.receipt_is; not_full = λ e. other (sym h.reply_is ∙ e) }

refusal : (why : GatherFault) (by_client : Bool) (a : Answered) → AnswersFault why by_client a → IsUnpublished a
refusal (fault.NotRemotable cause) true a h = plain-one (reply.InPlace (in_place.Kept cause)) a (λ e. cc) h
refusal (fault.NotRemotable cause) false a h = plain-one (reply.NotRemotable cause) a (λ e. cc) h
refusal (fault.TooLarge limit n path) true a h = plain-one (reply.InPlace (in_place.TooLarge limit)) a (λ e. cc) h
refusal (fault.TooLarge limit n path) false a h = plain-one (reply.TooLarge limit n path) a (λ e. cc) h
refusal (fault.InputMissing path) by_client a h = plain-one (reply.InputMissing path) a (λ e. cc) h
refusal (fault.InputChanged input) by_client a h = plain-one (reply.InputChanged input) a (λ e. cc) h
refusal (fault.SourceFault path) by_client a h = plain-one (reply.SourceFault path) a (λ e. cc) h
refusal (fault.Blocked path) by_client a h = plain-one (reply.Blocked path) a (λ e. cc) h
refusal fault.NoMemory by_client a h = absurd h

-- memory ran out
pub given-up : (answered : Option Answered) → IfSome answered (IsPlain reply_no_memory) → IfSome answered IsUnpublished
given-up None h = tt
given-up (Some a) h = plain-one reply_no_memory a (λ e. cc) h

-- nothing was gathered
pub refused : {E : Type 0} (why : GatherFault) (by_client : Bool) (made : Result Answered E) (answered : Option Answered) → IfOk made (AnswersFault why by_client) → IsOrGivenUp made answered → IfSome answered IsUnpublished
refused why by_client (Ok a) answered h o = rw o (refusal why by_client a h)
refused why by_client (Err e) answered h o = given-up answered o

unpublished-end : (cancelled : Option CancelReason) (ends : List Ended) (a : Answered) → IsUnpublishedEnd cancelled ends a → IsUnpublished a
unpublished-end (Some reason) ends a h = plain-one (reply.Cancelled reason) a (λ e. cc) h
unpublished-end None ends a h = plain-one _ a (λ e. cc) h.plain

-- the race was cancelled, or no attempt has an outcome that is published
pub failed : {E : Type 0} (cancelled : Option CancelReason) (ends : List Ended) (made : Result Answered E) (answered : Option Answered) → IfOk made (IsUnpublishedEnd cancelled ends) → IsOrGivenUp made answered
    → IfSome answered IsUnpublished
failed cancelled ends (Ok a) answered h o = rw o (unpublished-end cancelled ends a h)
failed cancelled ends (Err e) answered h o = given-up answered o

-- the bytes are no request
pub bad : (answered : Option Answered) (why : Bad) → IfSome answered (λ a. IsPlain (bad_request why) a ⊎ IsPlain reply_no_memory a) → IfSome answered IsUnpublished
bad None why h = tt
bad (Some a) why (inl h) = plain-one (bad_request why) a (λ e. cc) h
bad (Some a) why (inr h) = plain-one reply_no_memory a (λ e. cc) h
