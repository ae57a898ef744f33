-- The attempts of a session: which a plan has, how they ended, and what is published of them.
use Rattle.std.specs.Prelude.{◌≡◌, ◌≢◌, ◌⊎◌, ◌≤◌, ◌||◌, ◌&&◌, Bool, false, not, List, [], ◌∷◌, ◌++◌, Option, None, Some, Result, Ok, Err, All, IfOk, if◌then◌else◌, is_some}
use Rattle.rx_local.specs.Limits.{IsWithinLimits}
use Rattle.rx_local.specs.Local.{HasAttempted, HasTold, Job, job}
use Rattle.rx_race.specs.declared.slips.Slip.{Slip}
use Rattle.rx_race.specs.Publishing.{is_remote_only, is_zero}
use Rattle.rx_scan.specs.declared.gathering.Gathered.{Gathered}
use Rattle.rx_world.specs.declared.attempts.Attempt.{Attempt}
use Rattle.rx_world.specs.declared.attempts.Attempt.TheVariants as whose
use Rattle.rx_world.specs.declared.attempts.Cause.{Cause}
use Rattle.rx_world.specs.declared.attempts.Cause.TheVariants as causes
use Rattle.rx_world.specs.declared.attempts.End.{End}
use Rattle.rx_world.specs.declared.attempts.End.TheVariants as ends
use Rattle.rx_world.specs.declared.attempts.Ended.{Ended}
use Rattle.rx_world.specs.declared.attempts.Ended.TheVariants as ended
use Rattle.rx_world.specs.declared.attempts.Failure.{Failure}
use Rattle.rx_world.specs.declared.attempts.Failure.TheVariants as failures
use Rattle.rx_world.specs.declared.attempts.Origin.TheVariants as origins
use Rattle.rx_world.specs.declared.attempts.Plan.{Plan}
use Rattle.rx_world.specs.declared.benches.Bench as benches
use Rattle.rx_world.specs.declared.benches.BenchMaker as makers
use Rattle.rx_world.specs.declared.decisions.Decision.{Decision}
use Rattle.rx_world.specs.declared.outcomes.KeptOutcome.{KeptOutcome}
use Rattle.rx_world.specs.declared.outcomes.Outcome.{Outcome}
use Rattle.rx_world.specs.declared.remote_causes.RemoteCause.{RemoteCause}
use Rattle.rx_world.specs.declared.remote_causes.RemoteCause.TheVariants as remote_causes
use Rattle.rx_world.specs.declared.sources.Sources as sources
use Rattle.rx_world.specs.declared.world.World as world
use Rattle.rx_world.specs.Answers.{Gives}
use Rattle.rx_world.specs.Outcomes.{IsProper, kept}
use Rattle.rx_engine.specs.declared.attempts.Attempted.{Attempted}
use Rattle.rx_engine.specs.declared.attempts.Heard.{Heard}
use Rattle.rx_engine.specs.declared.attempts.Won.{Won}
use Rattle.rx_engine.specs.declared.held.Held.{Held}
use Rattle.rx_engine.specs.declared.transcripts.Passes.{Passes}
use Rattle.rx_engine.specs.declared.transcripts.Tally.{Tally}
use Rattle.rx_engine.specs.Meanings.{Meanings}
use Rattle.rx_engine.specs.Plans.{has_both, has_local, has_remote}
use Rattle.rx_engine.specs.Racing.{HaveRaced, first_by, is_cancelled, unused_passes}
use Rattle.rx_engine.specs.RemoteAttempts.{EndsThere, IsIdleThere}

-- ---- ends

-- How each attempt that was started ended, with the whole outcome; the decision that each was told of while it ran; and what became of the
-- passes of their race.
pub record Attempts : Type 0 where
  pub local : Option (End Outcome Cause)
  pub remote : Option (End Outcome RemoteCause)
  pub told_local : Option Decision
  pub told_remote : Option Decision
  pub passes : Passes

-- whose outcome is published before that of the other
abbrev pub first_of : Attempts → Attempt
first_of attempts = first_by attempts.passes.remote

abbrev pub kept_end : {C : Type 0} → End Outcome C → End KeptOutcome C
kept_end (ends.Done outcome origin) = ends.Done (kept outcome) origin
kept_end (ends.Failed cause) = ends.Failed cause

-- the same of an attempt that may not have been started
abbrev pub kept_of : {C : Type 0} → Option (End Outcome C) → Option (End KeptOutcome C)
kept_of None = None
kept_of (Some end) = Some (kept_end end)

abbrev pub listed_local : Option (End KeptOutcome Cause) → List Ended
listed_local None = []
listed_local (Some end) = ended.Local end ∷ []

abbrev pub listed_remote : Option (End KeptOutcome RemoteCause) → List Ended
listed_remote None = []
listed_remote (Some end) = ended.Remote end ∷ []

-- an end, where there is one
abbrev pub listed : Option Ended → List Ended
listed None = []
listed (Some end) = end ∷ []

-- of the local and the remote one, what is of the first attempt comes first
abbrev pub in_order : Attempt → List Ended → List Ended → List Ended
in_order whose.Local here there = here ++ there
in_order whose.Remote here there = there ++ here

-- the ends as a transcript keeps them
abbrev pub kept_ends : Attempts → List Ended
kept_ends attempts = in_order (first_of attempts) (listed_local (kept_of attempts.local)) (listed_remote (kept_of attempts.remote))

-- the same, and what became of the passes
abbrev pub tally_of : Attempts → Tally
tally_of attempts = record { ends = kept_ends attempts; passes = attempts.passes }

-- no attempt was started
abbrev pub no_tally : Tally
no_tally = record { ends = []; passes = unused_passes }

-- ---- what is published

-- the outcome of an attempt, where it has one
abbrev pub outcome_of : {C : Type 0} → Option (End Outcome C) → Option Won
outcome_of (Some (ends.Done outcome origin)) = Some (record { outcome = outcome; origin = origin })
outcome_of (Some (ends.Failed cause)) = None
outcome_of None = None

-- a remote outcome may be published at code 0, and at every code where no local attempt is planned
abbrev pub won_remote : Plan → Option (End Outcome RemoteCause) → Option Won
won_remote plan (Some (ends.Done outcome origin)) =
    if is_zero outcome.exit.code || is_remote_only plan then Some (record { outcome = outcome; origin = origin }) else None
won_remote plan (Some (ends.Failed cause)) = None
won_remote plan None = None

-- whether the local attempt starts, by the remote end: it does unless that may be published
abbrev pub starts_here : Plan → Option (End Outcome RemoteCause) → Bool
starts_here plan remote = has_local plan && not (is_some (won_remote plan remote))

abbrev pub first_won : Option Won → Option Won → Option Won
first_won (Some won) other = Some won
first_won None other = other

-- of what the local and the remote attempt have to publish, that of the first attempt, or else that of the other
abbrev pub won_by : Attempt → Option Won → Option Won → Option Won
won_by whose.Local here there = first_won here there
won_by whose.Remote here there = first_won there here

-- of these nothing, where the race was cancelled
abbrev pub unless_cancelled : Slip → Option Won → Option Won
unless_cancelled cancel won = if is_cancelled cancel then None else won

-- the outcome that is published, where there is one
abbrev pub winner : Plan → Attempts → Option Won
winner plan attempts =
    unless_cancelled attempts.passes.cancel (won_by (first_of attempts) (outcome_of attempts.local) (won_remote plan attempts.remote))

-- the first outcome among ends that are kept
abbrev pub first_done : List Ended → Option KeptOutcome
first_done [] = None
first_done (ended.Local (ends.Done outcome origin) ∷ others) = Some outcome
first_done (ended.Local (ends.Failed cause) ∷ others) = first_done others
first_done (ended.Remote (ends.Done outcome origin) ∷ others) = Some outcome
first_done (ended.Remote (ends.Failed cause) ∷ others) = first_done others

-- ---- failures

-- an end as a reply tells it, where nothing is published
abbrev pub failure_of : Ended → List Failure
failure_of (ended.Local (ends.Done outcome origin)) = []
failure_of (ended.Local (ends.Failed cause)) = failures.Local cause ∷ []
failure_of (ended.Remote (ends.Done outcome origin)) = failures.NonZero outcome.code ∷ []
failure_of (ended.Remote (ends.Failed cause)) = failures.Remote cause ∷ []

-- the end is no want of memory
abbrev pub IsTellable : Ended → Type 0
IsTellable (ended.Local (ends.Done outcome origin)) = Unit {0}
IsTellable (ended.Local (ends.Failed cause)) = cause ≢ causes.NoMemory
IsTellable (ended.Remote (ends.Done outcome origin)) = Unit {0}
IsTellable (ended.Remote (ends.Failed cause)) = cause ≢ remote_causes.NoMemory

abbrev pub AreTellable : List Ended → Type 0
AreTellable ends = All IsTellable ends

-- ---- what the attempts did

abbrev pub job_of : Gathered → Job
job_of gathered = job gathered.command gathered.files gathered.dirs

abbrev pub result_of : End Outcome Cause → Result Outcome Cause
result_of (ends.Done outcome origin) = Ok outcome
result_of (ends.Failed cause) = Err cause

-- an outcome of this end ran on this machine
abbrev pub IsFromHere : End Outcome Cause → Type 0
IsFromHere (ends.Done outcome origin) = origin ≡ origins.Local
IsFromHere (ends.Failed cause) = Unit {0}

-- The local attempt was made on what was gathered, and ended so. It is stopped exactly by the decision that it was told of.
pub record HasRunHere {M B T W : Type 0} (w : world.Ghosts W) (m : makers.Ghosts M W B) (b : benches.Ghosts B W) (s : sources.Ghosts T W)
    (gathered : Gathered) (told : Option Decision) (benches_before benches_after : M) (before after : T) (end : End Outcome Cause) : Type 0 where
  pub attempted : HasAttempted w m b s (job_of gathered) benches_before benches_after before after (result_of end)
  pub proper : IfOk (result_of end) (IsProper gathered.command)
  pub within : IfOk (result_of end) IsWithinLimits
  pub stopped : HasTold None told (result_of end)
  pub from : IsFromHere end

abbrev pub HasEndedHere : {P W B : Type 0} → Meanings P W B → Gathered → Option Decision → P → P → End Outcome Cause → Type 0
HasEndedHere m gathered told before after end = HasRunHere m.world m.benches m.bench m.tree_local gathered told before after before after end

-- no local attempt was made: the source tree that it reads answered nothing, no bench was made, and no count changed
pub record IsIdleHere {P W B : Type 0} (m : Meanings P W B) (before after : P) : Type 0 where
  pub unread : Gives m.world m.tree_local before after []
  pub source_is : m.tree_local.faults after ≡ m.tree_local.faults before
  pub bench_is : m.benches.faults after ≡ m.benches.faults before
  pub returned_is : m.benches.returned after ≡ m.benches.returned before

-- no attempt was made
pub record IsIdle {P W B : Type 0} (m : Meanings P W B) (before after : P) : Type 0 where
  pub here : IsIdleHere m before after
  pub there : IsIdleThere m.world m.farm m.tree_remote before after before after

abbrev pub HasLocal : {P W B : Type 0} → Meanings P W B → Gathered → Option Decision → P → P → Option (End Outcome Cause) → Type 0
HasLocal m gathered told before after None = IsIdleHere m before after
HasLocal m gathered told before after (Some end) = HasEndedHere m gathered told before after end

abbrev pub HasRemote : {P W B : Type 0} → Meanings P W B → Gathered → Bool → Option Decision → P → P → Option (End Outcome RemoteCause) → Type 0
HasRemote m gathered accepts told before after None = IsIdleThere m.world m.farm m.tree_remote before after before after
HasRemote m gathered accepts told before after (Some end) =
    EndsThere m.world m.farm m.tree_remote gathered accepts told before after before after end

-- Of a plan without both at once the remote attempt is made where the plan has one, and the local one where it starts after that. Neither was
-- told of a decision.
pub record AreInTurn (plan : Plan) (attempts : Attempts) : Type 0 where
  pub started_here : is_some attempts.local ≡ starts_here plan attempts.remote
  pub started_there : is_some attempts.remote ≡ has_remote plan
  pub told_local_is : attempts.told_local ≡ None
  pub told_remote_is : attempts.told_remote ≡ None

-- The attempts of the plan were made in a race of their own, and these are their ends. Where the plan hasn't both at once, they came in turn,
-- unless the race was cancelled.
pub record HasAttempts {P W B : Type 0} (m : Meanings P W B) (gathered : Gathered) (accepts : Bool) (before after : P)
    (attempts : Attempts) : Type 0 where
  pub local : HasLocal m gathered attempts.told_local before after attempts.local
  pub remote : HasRemote m gathered accepts attempts.told_remote before after attempts.remote
  pub raced : HaveRaced gathered.plan attempts.told_local attempts.local attempts.told_remote attempts.remote attempts.passes
  pub in_turn : has_both gathered.plan ≡ false → is_cancelled attempts.passes.cancel ≡ false → AreInTurn gathered.plan attempts

-- the same, and what is kept and published of them
pub record HasMade {P W B : Type 0} (m : Meanings P W B) (gathered : Gathered) (accepts : Bool) (before after : P) (made : Attempted) : Type 0 where
  pub attempts : Attempts
  pub each : HasAttempts m gathered accepts before after attempts
  pub tally_is : made.tally ≡ tally_of attempts
  pub won_is : made.won ≡ winner gathered.plan attempts

-- of these ends that is kept and published, and this is what was heard meanwhile
pub record IsMadeOf (plan : Plan) (passes : Passes) (local : Option (End Outcome Cause)) (remote : Option (End Outcome RemoteCause))
    (heard : Heard) (made : Attempted) : Type 0 where
  pub heard_is : made.heard ≡ heard
  pub passes_are : made.tally.passes ≡ passes
  pub ends_are : made.tally.ends ≡ in_order (first_by passes.remote) (listed_local (kept_of local)) (listed_remote (kept_of remote))
  pub won_is : made.won ≡ unless_cancelled passes.cancel (won_by (first_by passes.remote) (outcome_of local) (won_remote plan remote))

-- no count of a part that attempts have fell
pub record AreLaterThan {P W B : Type 0} (m : Meanings P W B) (before after : P) : Type 0 where
  pub tree_local : m.tree_local.faults before ≤ m.tree_local.faults after
  pub benches : m.benches.faults before ≤ m.benches.faults after
  pub tree_remote : m.tree_remote.faults before ≤ m.tree_remote.faults after
  pub farm : m.farm.faults before ≤ m.farm.faults after

-- ---- outcomes that are held with their kept form

-- the end with the whole outcome
abbrev pub whole_end : {C : Type 0} → End Held C → End Outcome C
whole_end (ends.Done held origin) = ends.Done held.outcome origin
whole_end (ends.Failed cause) = ends.Failed cause

abbrev pub whole : {C : Type 0} → Option (End Held C) → Option (End Outcome C)
whole None = None
whole (Some end) = Some (whole_end end)

-- the end is held, or there was no memory for its outcome
abbrev pub Holds : {C : Type 0} → C → End Outcome C → End Held C → Type 0
Holds no_memory (ends.Done outcome origin) held = (whole_end held ≡ ends.Done outcome origin) ⊎ (whole_end held ≡ ends.Failed no_memory)
Holds no_memory (ends.Failed cause) held = whole_end held ≡ ends.Failed cause

-- how a local attempt with this result ended
abbrev pub end_of : Result Outcome Cause → End Outcome Cause
end_of (Ok outcome) = ends.Done outcome origins.Local
end_of (Err cause) = ends.Failed cause
