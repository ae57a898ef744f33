-- The steps from a request to its answer: what was gathered for it, and how what was made of that is answered.
use Rattle.std.specs.Prelude.{◌≡◌, ◌⊎◌, ℕ, List, Option, None, Some}
use Rattle.rx_scan.specs.declared.gather_fault.GatherFault.{GatherFault}
use Rattle.rx_scan.specs.declared.gathering.Gathered.{Gathered}
use Rattle.rx_scan.specs.Gathering.{BlamesGather}
use Rattle.rx_scan.specs.Lists.{Listing, Tells}
use Rattle.rx_session.specs.declared.cancels.CancelReason.{CancelReason}
use Rattle.rx_session.specs.declared.requests.Request.{Request}
use Rattle.rx_world.specs.declared.attempts.Ended.{Ended}
use Rattle.rx_world.specs.declared.looks.Look.{Look}
use Rattle.rx_world.specs.declared.sources.Given.{Given}
use Rattle.rx_engine.specs.declared.answered.Answered.{Answered}
use Rattle.rx_engine.specs.declared.attempts.Won.{Won}
use Rattle.rx_engine.specs.Answered.{IsPlain, IsPublication, IsUnpublishedEnd, reply_no_memory}
use Rattle.rx_engine.specs.Answers.{HasGathered, asked_of, grounds, stretch_of}
use Rattle.rx_engine.specs.Meanings.{Meanings}

-- this was gathered for a request
pub record HasGatheredFor {P W B : Type 0} (m : Meanings P W B) (request : Request) (before after : P) (gathered : Gathered) : Type 0 where
  pub answers : List Given
  pub lists : List Listing
  pub view : List (List ℕ × Look)
  pub looked : Tells m.world m.tree before after answers lists
  pub inputs : HasGathered m (grounds before after answers lists view) request gathered

-- nothing was gathered for a request, for this cause
pub record HasNotGathered {P W B : Type 0} (m : Meanings P W B) (request : Request) (before after : P) (why : GatherFault) : Type 0 where
  pub answers : List Given
  pub lists : List Listing
  pub view : List (List ℕ × Look)
  pub looked : Tells m.world m.tree before after answers lists
  pub cause : BlamesGather (asked_of request) why (stretch_of m (grounds before after answers lists view))

-- The answer tells how this outcome was published or, where there is none, why the race was cancelled or that the attempts failed so, or that
-- memory ran out.
abbrev pub AnswersMade : Option Won → Option CancelReason → List Ended → Answered → Type 0
AnswersMade winning cancelled ends answered =
    ((won : Won) × (winning ≡ Some won) × IsPublication won answered)
    ⊎ ((winning ≡ None) × IsUnpublishedEnd cancelled ends answered)
    ⊎ IsPlain reply_no_memory answered
