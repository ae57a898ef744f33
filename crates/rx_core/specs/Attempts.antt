-- How far an attempt is, how it may end, and what it is told.
use Rattle.std.specs.Prelude.{◌≡◌, Bool, false, true, Option, None, Some, IfSome}
use Rattle.rx_race.specs.declared.events.Event.TheVariants.{Offer}
use Rattle.rx_race.specs.declared.events.Verdict.{Verdict}
use Rattle.rx_race.specs.declared.events.Verdict.TheVariants.{Late, Noted, Won}
use Rattle.rx_race.specs.declared.standing.Phase.{Phase}
use Rattle.rx_race.specs.declared.standing.Phase.TheVariants as phases
use Rattle.rx_race.specs.declared.standing.Standing.{Standing}
use Rattle.rx_race.specs.Publishing.{may_publish, offer_verdict}
use Rattle.rx_race.specs.Standings.{after}
use Rattle.rx_world.specs.declared.attempts.Attempt.{Attempt}
use Rattle.rx_world.specs.declared.attempts.Cause.{Cause}
use Rattle.rx_world.specs.declared.attempts.Cause.TheVariants as local_causes
use Rattle.rx_world.specs.declared.attempts.End.{End}
use Rattle.rx_world.specs.declared.attempts.End.TheVariants.{Done, Failed}
use Rattle.rx_world.specs.declared.attempts.Origin.{Origin}
use Rattle.rx_world.specs.declared.attempts.Plan.{Plan}
use Rattle.rx_world.specs.declared.commands.Command.{Command}
use Rattle.rx_world.specs.declared.decisions.Decision.{Decision}
use Rattle.rx_world.specs.declared.outcomes.Outcome.{Outcome}
use Rattle.rx_world.specs.declared.remote_causes.RemoteCause.{RemoteCause}
use Rattle.rx_world.specs.declared.remote_causes.RemoteCause.TheVariants as remote_causes
use Rattle.rx_world.specs.Decisions.{IsSettled}
use Rattle.rx_world.specs.Outcomes.{IsProper}

-- how far an attempt is, where C is why it may have no outcome
pub data Progress (C : Type 0) : Type 0 where
  Idle : Progress C
  Running : Progress C
  Ended : End Outcome C → Progress C
  Offered : End Outcome C → Verdict → Progress C

-- to its race an attempt runs until it offers its end
abbrev pub phase_in : {C : Type 0} → Progress C → Phase
phase_in Idle = phases.Idle
phase_in Running = phases.Running
phase_in (Ended end) = phases.Running
phase_in (Offered end verdict) = phases.Offered verdict

-- the end, offered or not
abbrev pub end_in : {C : Type 0} → Progress C → Option (End Outcome C)
end_in Idle = None
end_in Running = None
end_in (Ended end) = Some end
end_in (Offered end verdict) = Some end

-- an outcome, and where it comes from
pub record Finished : Type 0 where
  pub outcome : Outcome
  pub origin : Origin

abbrev pub finished_by : {C : Type 0} → End Outcome C → Option Finished
finished_by (Done outcome origin) = Some (record { outcome = outcome; origin = origin })
finished_by (Failed cause) = None

-- the outcome that was offered
abbrev pub finished_in : {C : Type 0} → Progress C → Option Finished
finished_in Idle = None
finished_in Running = None
finished_in (Ended end) = None
finished_in (Offered end verdict) = finished_by end

-- ---- ends

-- the decision that ended a local attempt
abbrev pub local_stop : Cause → Option Decision
local_stop (local_causes.Stopped decision) = Some decision
local_stop (local_causes.BenchFault step) = None
local_stop (local_causes.OutputMissing path) = None
local_stop (local_causes.InputChanged input) = None
local_stop (local_causes.OutputTooLarge limit n) = None
local_stop (local_causes.SourceFault path) = None
local_stop local_causes.NoMemory = None

-- the decision that ended a remote attempt
abbrev pub remote_stop : RemoteCause → Option Decision
remote_stop (remote_causes.Stopped decision) = Some decision
remote_stop (remote_causes.CallFailed faults) = None
remote_stop (remote_causes.BadBlob expected got) = None
remote_stop (remote_causes.BadResult fault) = None
remote_stop remote_causes.OperationsSpent = None
remote_stop (remote_causes.InputChanged input) = None
remote_stop (remote_causes.WrongVersion low high) = None
remote_stop (remote_causes.SourceFault path) = None
remote_stop remote_causes.NoMemory = None

-- what an attempt is told is its race's decision, which is one for an attempt or a cancel
abbrev pub Stops : Decision → Decision → Type 0
Stops made told = (told ≡ made) × IsSettled told

-- An attempt may end so: an outcome is proper, and a stop has its race's decision.
abbrev pub MayEnd : {C : Type 0} → (C → Option Decision) → Command → Decision → End Outcome C
    → Type 0
MayEnd stop command made (Done outcome origin) = IsProper command outcome
MayEnd stop command made (Failed cause) = IfSome (stop cause) (Stops made)

-- ---- offers

-- what the offer of an end is told
abbrev pub verdict_on : {C : Type 0} → Plan → Attempt → Decision → End Outcome C → Verdict
verdict_on plan attempt made end = offer_verdict made (may_publish plan attempt end)

-- an attempt that ended offers its end
abbrev pub offered : {C : Type 0} → Plan → Attempt → Decision → Progress C → Progress C
offered plan attempt made Idle = Idle
offered plan attempt made Running = Running
offered plan attempt made (Ended end) = Offered end (verdict_on plan attempt made end)
offered plan attempt made (Offered end verdict) = Offered end verdict

-- the decision that this leaves
abbrev pub decision_by : {C : Type 0} → Standing → Attempt → Progress C → Decision
decision_by s attempt Idle = s.decision
decision_by s attempt Running = s.decision
decision_by s attempt (Ended end) =
    (after s (Offer attempt (verdict_on s.plan attempt s.decision end))).decision
decision_by s attempt (Offered end verdict) = s.decision

-- Won was told only where the end may be published, and Noted only where it may not.
abbrev pub HasVerdict : Bool → Verdict → Type 0
HasVerdict may Won = may ≡ true
HasVerdict may Late = Unit {0}
HasVerdict may Noted = may ≡ false
