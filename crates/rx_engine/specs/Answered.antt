-- Replies with their frames, as they are made ready.
use Rattle.std.specs.Prelude.{◌≡◌, ◌≢◌, ◌<◌, Bool, true, false, Option, None, Some, List, length}
use Rattle.std.specs.List.{flat_map}
use Rattle.rx_session.specs.declared.bad.Bad.{Bad}
use Rattle.rx_session.specs.declared.cancels.CancelReason.{CancelReason}
use Rattle.rx_session.specs.declared.in_place.InPlaceCause.TheVariants as in_place
use Rattle.rx_session.specs.declared.replies.Reply.{Reply}
use Rattle.rx_session.specs.declared.replies.Reply.TheVariants as reply
use Rattle.rx_session.specs.Replies.{frame_of}
use Rattle.rx_scan.specs.declared.gather_fault.GatherFault.{GatherFault}
use Rattle.rx_scan.specs.declared.gather_fault.GatherFault.TheVariants.{Blocked, InputChanged, InputMissing, NoMemory, NotRemotable, SourceFault, TooLarge}
use Rattle.rx_world.specs.declared.attempts.Ended.{Ended}
use Rattle.rx_engine.specs.declared.answered.Answered.{Answered}
use Rattle.rx_engine.specs.declared.attempts.Won.{Won}
use Rattle.rx_engine.specs.Answers.{done_reply}
use Rattle.rx_engine.specs.Attempts.{AreTellable, failure_of}

abbrev pub bad_request : Bad → Reply
bad_request bad = reply.BadRequest bad

abbrev pub reply_no_memory : Reply
reply_no_memory = reply.NoMemory

-- this reply, without a publication
pub record IsPlain (answer : Reply) (answered : Answered) : Type 0 where
  pub reply_is : answered.reply ≡ answer
  pub frame : answered.frame.items ≡ frame_of answered.reply
  pub receipt_is : answered.receipt ≡ None

-- the answer tells of no publication
pub record IsUnpublished (answered : Answered) : Type 0 where
  pub receipt_is : answered.receipt ≡ None
  pub not_full : answered.reply ≢ reply.JournalFull

-- the reply where nothing was gathered, by whether the client itself runs what can't be taken
abbrev pub AnswersFault : GatherFault → Bool → Answered → Type 0
AnswersFault (NotRemotable cause) true answered = IsPlain (reply.InPlace (in_place.Kept cause)) answered
AnswersFault (NotRemotable cause) false answered = IsPlain (reply.NotRemotable cause) answered
AnswersFault (TooLarge limit n path) true answered = IsPlain (reply.InPlace (in_place.TooLarge limit)) answered
AnswersFault (TooLarge limit n path) false answered = IsPlain (reply.TooLarge limit n path) answered
AnswersFault (InputMissing path) by_client answered = IsPlain (reply.InputMissing path) answered
AnswersFault (InputChanged input) by_client answered = IsPlain (reply.InputChanged input) answered
AnswersFault (SourceFault path) by_client answered = IsPlain (reply.SourceFault path) answered
AnswersFault (Blocked path) by_client answered = IsPlain (reply.Blocked path) answered
AnswersFault NoMemory by_client answered = ⊥

-- the reply where no attempt has an outcome that is published
pub record IsFailure (ends : List Ended) (answered : Answered) : Type 0 where
  pub plain : IsPlain (reply.AllFailed (flat_map failure_of ends)) answered
  pub tellable : AreTellable ends

-- the reply where nothing is published: that the race was cancelled or, where it wasn't, how its attempts failed
abbrev pub IsUnpublishedEnd : Option CancelReason → List Ended → Answered → Type 0
IsUnpublishedEnd (Some reason) ends answered = IsPlain (reply.Cancelled reason) answered
IsUnpublishedEnd None ends answered = IsFailure ends answered

-- the reply tells how the publication of an outcome went
abbrev pub TellsPublication : Won → Answered → Reply → Type 0
TellsPublication won answered (reply.Done exit stdout stderr from number placed) =
    (reply.Done exit stdout stderr from number placed ≡ done_reply won number) × (answered.receipt ≡ Some (record { number = number }))
TellsPublication won answered (reply.PlaceFault number placed) =
    (placed < length won.outcome.files) × (answered.receipt ≡ Some (record { number = number }))
TellsPublication won answered reply.JournalFull = answered.receipt ≡ None
TellsPublication won answered (reply.BadRequest bad) = ⊥
TellsPublication won answered (reply.NotRemotable cause) = ⊥
TellsPublication won answered (reply.InputMissing path) = ⊥
TellsPublication won answered (reply.InputChanged input) = ⊥
TellsPublication won answered (reply.SourceFault path) = ⊥
TellsPublication won answered (reply.TooLarge limit n path) = ⊥
TellsPublication won answered (reply.AllFailed failures) = ⊥
TellsPublication won answered (reply.Cancelled reason) = ⊥
TellsPublication won answered reply.NoMemory = ⊥
TellsPublication won answered (reply.Blocked path) = ⊥
TellsPublication won answered (reply.InPlace cause) = ⊥

pub record IsPublication (won : Won) (answered : Answered) : Type 0 where
  pub tells : TellsPublication won answered answered.reply
  pub frame : answered.frame.items ≡ frame_of answered.reply
