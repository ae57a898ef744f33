-- A race by what its passes were told: how each attempt ended, what its offer was told, and whether the client gave up.
use Rattle.std.specs.Prelude.{◌≡◌, ℕ, ◌&&◌, ◌||◌, Bool, false, true, List, [], ◌∷◌, Option, None, Some, IfSome, if◌then◌else◌, is_some}
use Rattle.rx_core.specs.Actions.{Action}
use Rattle.rx_core.specs.Attempts.{Idle, MayEnd, Offered, Progress, Running, local_stop, phase_in}
use Rattle.rx_core.specs.Remote.{Job, Rules}
use Rattle.rx_core.specs.Attempts.{Stops}
use Rattle.rx_race.specs.declared.events.Verdict.{Verdict}
use Rattle.rx_race.specs.declared.events.Verdict.TheVariants.{Late, Noted, Won}
use Rattle.rx_race.specs.Publishing.{may_publish}
use Rattle.rx_race.specs.Standings.{has_no_attempt_left, in_plan, is_turn}
use Rattle.rx_world.specs.declared.attempts.Attempt.{Attempt}
use Rattle.rx_world.specs.declared.attempts.Attempt.TheVariants.{Local, Remote}
use Rattle.rx_world.specs.declared.attempts.Cause.{Cause}
use Rattle.rx_world.specs.declared.attempts.End.{End}
use Rattle.rx_world.specs.declared.attempts.Plan.{Plan}
use Rattle.rx_world.specs.declared.decisions.Decision.{Decision}
use Rattle.rx_world.specs.declared.decisions.Decision.TheVariants.{By, Cancelled, Nothing, Undecided}
use Rattle.rx_world.specs.declared.outcomes.Outcome.{Outcome}
use Rattle.rx_world.specs.declared.remote_causes.RemoteCause.{RemoteCause}

-- an end that was offered, and what the offer was told
pub record ToldEnd (C : Type 0) : Type 0 where
  pub end : End Outcome C
  pub verdict : Verdict

-- Of an attempt that wasn't started there is none.
pub record ToldRace : Type 0 where
  pub plan : Plan
  pub local : Option (ToldEnd Cause)
  pub remote : Option (ToldEnd RemoteCause)
  pub cancelled : Bool

-- how far this leaves an attempt
abbrev pub progress_of : {C : Type 0} → Option (ToldEnd C) → Progress C
progress_of None = Idle
progress_of (Some told) = Offered told.end told.verdict

abbrev pub is_won : Verdict → Bool
is_won Won = true
is_won Late = false
is_won Noted = false

abbrev pub is_late : Verdict → Bool
is_late Won = false
is_late Late = true
is_late Noted = false

abbrev pub has_won : {C : Type 0} → Option (ToldEnd C) → Bool
has_won None = false
has_won (Some told) = is_won told.verdict

abbrev pub has_come_late : {C : Type 0} → Option (ToldEnd C) → Bool
has_come_late None = false
has_come_late (Some told) = is_late told.verdict

-- what it came to
abbrev pub decided_by : Bool → Bool → Bool → Decision
decided_by local remote cancelled =
    if local then By Local else if remote then By Remote else if cancelled then Cancelled else Nothing

abbrev pub decided : ToldRace → Decision
decided race = decided_by (has_won race.local) (has_won race.remote) race.cancelled

-- ---- while nothing was decided

-- an attempt that was noted has offered, and each other one that was started runs
abbrev pub while_open : {C : Type 0} → End Outcome C → Verdict → Progress C
while_open end Noted = Offered end Noted
while_open end Won = Running
while_open end Late = Running

abbrev pub noted_progress : {C : Type 0} → Option (ToldEnd C) → Progress C
noted_progress None = Idle
noted_progress (Some told) = while_open told.end told.verdict

-- each attempt of the plan was noted
abbrev pub are_all_noted : ToldRace → Bool
are_all_noted race = has_no_attempt_left (record {
  plan = race.plan;
  local = phase_in (noted_progress race.local);
  remote = phase_in (noted_progress race.remote);
  decision = Undecided;
})

-- ---- what fits

-- the decision that an attempt can have seen before it offered
abbrev pub seen_by : Decision → Verdict → Decision
seen_by made Late = made
seen_by made Won = Undecided
seen_by made Noted = Undecided

-- an offer won only where its end may be published, and was noted only where it may not
pub record FitsTold {C : Type 0} (plan : Plan) (x : Attempt) (told : ToldEnd C) : Type 0 where
  pub won : told.verdict ≡ Won → may_publish plan x told.end ≡ true
  pub noted : told.verdict ≡ Noted → may_publish plan x told.end ≡ false

-- what was heard, the latest first, leaves no end, and tells no other decision than this
abbrev pub LeavesOpen : {H : Type 0} → Rules H → Job → Decision → List H → Type 0
LeavesOpen rules job made [] = Unit {0}
LeavesOpen rules job made (item ∷ earlier) =
    rules.Fits job earlier item × IfSome (rules.decision_of item) (Stops made)
    × (rules.end_of job (item ∷ earlier) ≡ None) × LeavesOpen rules job made earlier

-- it leaves this end, and left none before
abbrev pub LeavesEnd : {H : Type 0} → Rules H → Job → Decision → End Outcome RemoteCause → List H → Type 0
LeavesEnd rules job made end [] = ⊥
LeavesEnd rules job made end (item ∷ earlier) =
    rules.Fits job earlier item × IfSome (rules.decision_of item) (Stops made)
    × (rules.end_of job (item ∷ earlier) ≡ Some end) × LeavesOpen rules job made earlier

abbrev pub HeardOf : {H : Type 0} → Rules H → Job → Decision → Option (ToldEnd RemoteCause) → List H → Type 0
HeardOf rules job made None heard = heard ≡ []
HeardOf rules job made (Some told) heard = LeavesEnd rules job (seen_by made told.verdict) told.end heard

-- The attempts of a plan may have raced so.
pub record IsToldRace {H : Type 0} (rules : Rules H) (job : Job) (heard : List H) (race : ToldRace) : Type 0 where
  pub planned_local : is_some race.local ≡ true → in_plan race.plan Local ≡ true
  pub planned_remote : is_some race.remote ≡ true → in_plan race.plan Remote ≡ true
  pub turn : is_some race.local ≡ true → is_turn race.plan Local (phase_in (progress_of race.remote)) ≡ true
  pub fits_local : IfSome race.local (FitsTold race.plan Local)
  pub fits_remote : IfSome race.remote (FitsTold race.plan Remote)
  pub ends_local : IfSome race.local (λ told. MayEnd local_stop job.command (seen_by (decided race) told.verdict) told.end)
  pub ends_remote : HeardOf rules job (decided race) race.remote heard
  -- at most one of the passes won
  pub one : has_won race.local && has_won race.remote ≡ false
  pub free : race.cancelled ≡ true → has_won race.local || has_won race.remote ≡ false
  -- an offer was late only where another pass won
  pub late_local : has_come_late race.local ≡ true → has_won race.remote || race.cancelled ≡ true
  pub late_remote : has_come_late race.remote ≡ true → has_won race.local || race.cancelled ≡ true
  -- where none won, each attempt of the plan was noted, and only then
  pub nothing : has_won race.local || (has_won race.remote || race.cancelled) ≡ false → are_all_noted race ≡ true
  pub left : race.cancelled ≡ true → are_all_noted race ≡ false

-- ---- the action

-- an action with such a race, of which nothing was published or answered
abbrev pub raced_action : {H : Type 0} → ℕ → Job → List H → ToldRace → Action H
raced_action session job heard race = record {
  session = session;
  plan = race.plan;
  job = job;
  local = progress_of race.local;
  remote = progress_of race.remote;
  heard = heard;
  decision = decided race;
  entry = None;
  reply = None;
}
