-- What an answer enters into the journal.
use Rattle.std.proofs.Common.{◌≡◌, ℕ, List}
use Rattle.std.specs.Prelude.{Err, IfOk, IfSome, None, OnErr, Ok, Option, Result, Some}
use Rattle.rx_board.specs.declared.journal.Entry.{Entry}
use Rattle.rx_board.specs.declared.journal.Receipt.{Receipt}
use Rattle.rx_board.specs.Board.{State}
use Rattle.rx_core.proofs.Cases.{false-true, some-is}
use Rattle.rx_session.specs.declared.replies.Reply.{Reply}
use Rattle.rx_session.specs.declared.replies.Reply.TheVariants as reply
use Rattle.rx_world.specs.declared.attempts.Ended.{Ended}
use Rattle.rx_world.specs.declared.outcomes.Listed.{Listed}
use Rattle.rx_world.specs.declared.places.Place as places
use Rattle.rx_engine.specs.declared.answered.Answered.{Answered}
use Rattle.rx_engine.specs.Answered.{IsUnpublished}
use Rattle.rx_engine.specs.Journal.{Enters, EntersBoard, files_of}
use Rattle.rx_engine.specs.Ready.{EntersAs, IsOrGivenUp}
use Rattle.rx_engine.proofs.Unpublished.{given-up}

-- a reply without a receipt, other than a full journal, leaves the journal as it was
pub enters-nothing : (limit : ℕ) (old new : List Entry) (before now session : ℕ) (receipt : Option Receipt) (files : List Listed) (answer : Option Reply) → new ≡ old → receipt ≡ None → (answer ≡ Some reply.JournalFull → ⊥) → Enters limit old new before now session receipt files answer
enters-nothing limit old new before now session receipt files answer same e other = rw e (record { entry = same; room = λ h. absurd (false-true h); full = λ f. absurd (other f) })

-- an answer that tells of no publication
pub unpublished-enters : {P : Type 0} (p : places.Ghosts P) (old new : State P) (session : ℕ) (ends : List Ended) (answered : Option Answered) → new.journal ≡ old.journal
    → IfSome answered IsUnpublished → EntersAs p old new session ends answered
unpublished-enters p old new session ends None same h = same
unpublished-enters p old new session ends (Some a) same h =
    enters-nothing old.limit old.journal new.journal _ _ session a.receipt (files_of ends) (Some a.reply) same h.receipt_is (λ e. h.not_full (some-is e))

-- an outcome was published, or memory ran out before that
pub published-enters : {P E : Type 0} (p : places.Ghosts P) (old new : State P) (session : ℕ) (ends : List Ended) (files : List Listed) (made : Result Answered E) (answered : Option Answered)
    → files_of ends ≡ files → IfOk made (λ a. EntersBoard p old new session a.receipt files (Some a.reply)) → OnErr made (new.journal ≡ old.journal)
    → IsOrGivenUp made answered → EntersAs p old new session ends answered
published-enters p old new session ends files (Ok a) answered same h err o = rw o (rw same h)
published-enters p old new session ends files (Err e) answered same h err o = unpublished-enters p old new session ends answered err (given-up answered o)
