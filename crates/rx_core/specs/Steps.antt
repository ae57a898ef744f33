-- The steps of the core: where each may come, and what it leaves.
use Rattle.std.specs.Prelude.{◌≡◌, ℕ, true, ◌∷◌, Option, None, Some, IfSome}
use Rattle.rx_core.specs.Actions.{Action, admitted, cancel, offer, standing_of, start}
use Rattle.rx_core.specs.Answering.{MayAnswer}
use Rattle.rx_core.specs.Attempts.{Ended, MayEnd, Progress, Running, Stops, local_stop}
use Rattle.rx_core.specs.Publications.{MayPublish, publish}
use Rattle.rx_core.specs.Remote.{Job, Rules}
use Rattle.rx_core.specs.Replies.{Reply}
use Rattle.rx_core.specs.States.{Has, State, with_action, with_change}
use Rattle.rx_race.specs.Standings.{may_start}
use Rattle.rx_world.specs.declared.attempts.Attempt.{Attempt}
use Rattle.rx_world.specs.declared.attempts.Attempt.TheVariants.{Local, Remote}
use Rattle.rx_world.specs.declared.attempts.Cause.{Cause}
use Rattle.rx_world.specs.declared.attempts.End.{End}
use Rattle.rx_world.specs.declared.attempts.Plan.{Plan}
use Rattle.rx_world.specs.declared.outcomes.Outcome.{Outcome}

-- a step, of the action with the number that comes first
pub data Step (H : Type 0) : Type 0 where
  -- a session admits an action
  Admit : ℕ → ℕ → Plan → Job → Step H
  -- an attempt is started
  Start : ℕ → Attempt → Step H
  -- the remote attempt hears this
  Hear : ℕ → H → Step H
  -- the local attempt ends so
  Exit : ℕ → End Outcome Cause → Step H
  -- an attempt offers its end
  Offer : ℕ → Attempt → Step H
  -- the client gives its request up
  Cancel : ℕ → Step H
  -- so many of its files are placed, and this is the place's count of faults then
  Publish : ℕ → ℕ → ℕ → Step H
  -- the client is answered
  Answer : ℕ → Reply → Step H

-- ---- where a step may come

-- The remote attempt runs, and this fits what it heard. A decision is that of its race, and is one
-- for an attempt or a cancel.
pub record MayHear {H : Type 0} (rules : Rules H) (item : H) (a : Action H) : Type 0 where
  pub running : a.remote ≡ Running
  pub fits : rules.Fits a.job a.heard item
  pub stops : IfSome (rules.decision_of item) (Stops a.decision)

-- the local attempt runs, and may end so
pub record MayExit {H : Type 0} (end : End Outcome Cause) (a : Action H) : Type 0 where
  pub running : a.local ≡ Running
  pub may_end : MayEnd local_stop a.job.command a.decision end

-- an attempt ended, and has not offered
abbrev pub HasEnded : {C : Type 0} → Progress C → Type 0
HasEnded {C} progress = (end : End Outcome C) × (progress ≡ Ended end)

abbrev pub MayOffer : {H : Type 0} → Attempt → Action H → Type 0
MayOffer Local a = HasEnded a.local
MayOffer Remote a = HasEnded a.remote

abbrev pub MayStep : {H : Type 0} → Rules H → State H → Step H → Type 0
MayStep rules state (Admit n session plan job) = state.actions n ≡ None
MayStep rules state (Start n attempt) = Has state n (λ a. may_start (standing_of a) attempt ≡ true)
MayStep rules state (Hear n item) = Has state n (MayHear rules item)
MayStep rules state (Exit n end) = Has state n (MayExit end)
MayStep rules state (Offer n attempt) = Has state n (MayOffer attempt)
MayStep rules state (Cancel n) = Has state n (λ a. Unit {0})
MayStep rules state (Publish n placed faults) = Has state n (MayPublish state placed faults)
MayStep rules state (Answer n reply) = Has state n (MayAnswer state reply)

-- ---- what a step leaves

-- an attempt that is left an end has ended
abbrev pub ended_by : {C : Type 0} → Option (End Outcome C) → Progress C → Progress C
ended_by None progress = progress
ended_by (Some end) progress = Ended end

abbrev pub hear : {H : Type 0} → Rules H → H → Action H → Action H
hear rules item a = record a {
  heard = item ∷ a.heard;
  remote = ended_by (rules.end_of a.job (item ∷ a.heard)) a.remote;
}

abbrev pub exit : {H : Type 0} → End Outcome Cause → Action H → Action H
exit end a = record a { local = Ended end }

abbrev pub answer : {H : Type 0} → Reply → Action H → Action H
answer reply a = record a { reply = Some reply }

abbrev pub after_step : {H : Type 0} → Rules H → State H → Step H → State H
after_step rules state (Admit n session plan job) =
    with_action n (admitted session plan job) state
after_step rules state (Start n attempt) = with_change n (start attempt) state
after_step rules state (Hear n item) = with_change n (hear rules item) state
after_step rules state (Exit n end) = with_change n (exit end) state
after_step rules state (Offer n attempt) = with_change n (offer attempt) state
after_step rules state (Cancel n) = with_change n cancel state
after_step rules state (Publish n placed faults) =
    publish n placed faults state (state.actions n)
after_step rules state (Answer n reply) = with_change n (answer reply) state
