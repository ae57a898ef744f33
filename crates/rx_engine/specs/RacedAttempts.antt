-- What the attempts of a race did with the parts that each has.
use Rattle.std.specs.Prelude.{◌≡◌, Bool, true, false, Option, None, Some, Result, Ok, Err}
use Rattle.rx_exec_messages.specs.declared.callers.Caller as callers
use Rattle.rx_race.specs.declared.slips.Seat.TheVariants.{Of}
use Rattle.rx_race.specs.declared.slips.Slip.{Slip}
use Rattle.rx_race.specs.declared.slips.Slip.TheVariants.{Live, Refused, Stopped, Told, Unused, Yielded}
use Rattle.rx_race.specs.Slips.{Ticket}
use Rattle.rx_scan.specs.declared.gathering.Gathered.{Gathered}
use Rattle.rx_world.specs.declared.attempts.Attempt.{Attempt}
use Rattle.rx_world.specs.declared.attempts.Attempt.TheVariants.{Local, Remote}
use Rattle.rx_world.specs.declared.attempts.Cause.{Cause}
use Rattle.rx_world.specs.declared.attempts.End.{End}
use Rattle.rx_world.specs.declared.attempts.Plan.{Plan}
use Rattle.rx_world.specs.declared.benches.Bench as benches
use Rattle.rx_world.specs.declared.benches.BenchMaker as makers
use Rattle.rx_world.specs.declared.decisions.Decision.{Decision}
use Rattle.rx_world.specs.declared.outcomes.Outcome.{Outcome}
use Rattle.rx_world.specs.declared.remote_causes.RemoteCause.{RemoteCause}
use Rattle.rx_world.specs.declared.sources.Sources as sources
use Rattle.rx_world.specs.declared.world.World as world
use Rattle.rx_engine.specs.Attempts.{HasLocal, HasRemote, HasRunHere}
use Rattle.rx_engine.specs.Meanings.{Meanings}
use Rattle.rx_engine.specs.declared.transcripts.Passes.{Passes}
use Rattle.rx_engine.specs.Racing.{FitsEnd, HaveRaced, unstarted}
use Rattle.rx_engine.specs.RemoteAttempts.{EndsThere}

-- ---- starts

abbrev pub is_refused : Slip → Bool
is_refused Refused = true
is_refused Unused = false
is_refused Live = false
is_refused (Stopped seen) = false
is_refused (Yielded seen) = false
is_refused (Told verdict) = false

-- whether an attempt was to start: it did, or was refused
abbrev pub is_due : {L N : Type 0} → (N → Ticket) → Result L N → Bool
is_due ticket_of (Ok live) = true
is_due ticket_of (Err no_start) = is_refused (ticket_of no_start).slip

-- This attempt was started, or wasn't, by whether it was to. What was started has an attempt, and what wasn't has a ticket.
abbrev pub IsStart : {L N : Type 0} → (L → Attempt) → (N → Ticket) → Attempt → Bool → Result L N → Type 0
IsStart attempt_of ticket_of x due (Ok live) = (due ≡ true) × (attempt_of live ≡ x)
IsStart attempt_of ticket_of x due (Err no_start) = ticket_of no_start ≡ record { seat = Of x; slip = unstarted due }

-- ---- attempts

-- the local attempt was made; where it wasn't started, its parts are as they were
abbrev pub RanHere : {M B T W : Type 0} → world.Ghosts W → makers.Ghosts M W B → benches.Ghosts B W → sources.Ghosts T W → Gathered
    → Option Decision → M → M → T → T → Option (End Outcome Cause) → Type 0
RanHere w m b s gathered told benches_before benches_after before after None = (benches_after ≡ benches_before) × (after ≡ before)
RanHere w m b s gathered told benches_before benches_after before after (Some end) =
    HasRunHere w m b s gathered told benches_before benches_after before after end

-- the same of the remote one
abbrev pub RanThere : {C T W : Type 0} → world.Ghosts W → callers.Ghosts C W → sources.Ghosts T W → Gathered → Bool
    → Option Decision → C → C → T → T → Option (End Outcome RemoteCause) → Type 0
RanThere w c s gathered accepts told farm_before farm_after before after None = (farm_after ≡ farm_before) × (after ≡ before)
RanThere w c s gathered accepts told farm_before farm_after before after (Some end) =
    EndsThere w c s gathered accepts told farm_before farm_after before after end

-- The local attempt of a race was made or not started, and what became of its pass fits that.
pub record HasRacedHere {M B T W : Type 0} (w : world.Ghosts W) (m : makers.Ghosts M W B) (b : benches.Ghosts B W) (s : sources.Ghosts T W)
    (plan : Plan) (due : Bool) (gathered : Gathered) (benches_before benches_after : M) (before after : T) (end : Option (End Outcome Cause))
    (ticket : Ticket) : Type 0 where
  pub told : Option Decision
  pub seat : ticket.seat ≡ Of Local
  pub fits : FitsEnd plan Local due told end ticket.slip
  pub ran : RanHere w m b s gathered told benches_before benches_after before after end

-- the same of the remote one
pub record HasRacedThere {C T W : Type 0} (w : world.Ghosts W) (c : callers.Ghosts C W) (s : sources.Ghosts T W)
    (plan : Plan) (due : Bool) (gathered : Gathered) (accepts : Bool) (farm_before farm_after : C) (before after : T)
    (end : Option (End Outcome RemoteCause)) (ticket : Ticket) : Type 0 where
  pub told : Option Decision
  pub seat : ticket.seat ≡ Of Remote
  pub fits : FitsEnd plan Remote due told end ticket.slip
  pub ran : RanThere w c s gathered accepts told farm_before farm_after before after end

-- both, over the parts of a session
pub record HasRaced {P W B : Type 0} (m : Meanings P W B) (gathered : Gathered) (accepts : Bool) (before after : P)
    (local : Option (End Outcome Cause)) (remote : Option (End Outcome RemoteCause)) (passes : Passes) : Type 0 where
  pub told_local : Option Decision
  pub told_remote : Option Decision
  pub here : HasLocal m gathered told_local before after local
  pub there : HasRemote m gathered accepts told_remote before after remote
  pub raced : HaveRaced gathered.plan told_local local told_remote remote passes
