-- A race while nothing is decided: each attempt is started, and one that was noted has offered.
use Rattle.std.proofs.Common.{◌≡◌, ℕ, Bool, true, false, List, [], ◌∷◌, Option, None, Some, refl, ap, sym, subst}
use Rattle.std.specs.Prelude.{IfSome, if◌then◌else◌, is_some}
use Rattle.rx_core.specs.Actions.{Action}
use Rattle.rx_core.specs.Attempts.{Ended, Idle, MayEnd, Offered, Progress, Running, local_stop, phase_in}
use Rattle.rx_core.specs.Remote.{Job, Rules}
use Rattle.rx_core.specs.States.{State}
use Rattle.rx_core.specs.ToldRaces.{FitsTold, HeardOf, LeavesEnd, LeavesOpen, ToldEnd, has_won, is_won, noted_progress, progress_of, seen_by, while_open}
use Rattle.rx_core.specs.Steps.{ended_by}
use Rattle.rx_core.proofs.Cases.{false-true}
use Rattle.rx_core.proofs.Reaching.{Reaches, exited, heard, offered, started}
use Rattle.rx_race.specs.declared.events.Verdict.{Verdict}
use Rattle.rx_race.specs.declared.events.Verdict.TheVariants.{Late, Noted, Won}
use Rattle.rx_race.specs.declared.standing.Phase.{Phase}
use Rattle.rx_race.specs.declared.standing.Phase.TheVariants as phases
use Rattle.rx_race.specs.Publishing.{may_publish, offer_verdict}
use Rattle.rx_race.specs.Standings.{decision_after_offer, has_no_attempt_left, in_plan, is_noted, is_turn}
use Rattle.rx_world.specs.declared.attempts.Attempt.TheVariants.{Local, Remote}
use Rattle.rx_world.specs.declared.attempts.Cause.{Cause}
use Rattle.rx_world.specs.declared.attempts.End.{End}
use Rattle.rx_world.specs.declared.attempts.Plan.{Plan}
use Rattle.rx_world.specs.declared.attempts.Plan.TheVariants.{Both, Fallback, LocalOnly, RemoteOnly}
use Rattle.rx_world.specs.declared.decisions.Decision.{Decision}
use Rattle.rx_world.specs.declared.decisions.Decision.TheVariants.{Nothing, Undecided}
use Rattle.rx_world.specs.declared.outcomes.Outcome.{Outcome}
use Rattle.rx_world.specs.declared.remote_causes.RemoteCause.{RemoteCause}

-- ---- plans

-- nobody but a local attempt waits
turn-remote : (plan : Plan) (remote : Phase) → is_turn plan Remote remote ≡ true
turn-remote LocalOnly remote = refl
turn-remote RemoteOnly remote = refl
turn-remote Fallback remote = refl
turn-remote Both remote = refl

open-turn : (verdict : Verdict) (end : End Outcome RemoteCause)
    → is_noted (phase_in (Offered end verdict)) ≡ true → is_noted (phase_in (while_open end verdict)) ≡ true
open-turn Noted end e = refl
open-turn Won end e = false-true e
open-turn Late end e = false-true e

-- a local attempt that had its turn had it while nothing was decided
pub turn-open : (plan : Plan) (remote : Option (ToldEnd RemoteCause))
    → is_turn plan Local (phase_in (progress_of remote)) ≡ true
    → is_turn plan Local (phase_in (noted_progress remote)) ≡ true
turn-open LocalOnly remote e = refl
turn-open RemoteOnly remote e = refl
turn-open Both remote e = refl
turn-open Fallback None e = e
turn-open Fallback (Some told) e = open-turn told.verdict told.end e

-- whether each attempt of the plan has offered
abbrev all_over : Plan → Phase → Phase → Bool
all_over plan local remote =
    has_no_attempt_left (record { plan = plan; local = local; remote = remote; decision = Undecided })

-- each plan has an attempt
none-over : (plan : Plan) → all_over plan phases.Idle phases.Idle ≡ false
none-over LocalOnly = refl
none-over RemoteOnly = refl
none-over Fallback = refl
none-over Both = refl

-- an attempt of the plan that runs, or wasn't started, is left
pub left-local : (plan : Plan) (remote : Phase) → in_plan plan Local ≡ true
    → all_over plan phases.Running remote ≡ false
left-local plan remote planned = rw planned refl

pub left-remote : (plan : Plan) (local : Phase) → in_plan plan Remote ≡ true
    → all_over plan local phases.Running ≡ false
left-remote LocalOnly local planned = false-true planned
left-remote RemoteOnly local planned = refl
left-remote Fallback phases.Idle planned = refl
left-remote Fallback phases.Running planned = refl
left-remote Fallback (phases.Offered verdict) planned = refl
left-remote Both phases.Idle planned = refl
left-remote Both phases.Running planned = refl
left-remote Both (phases.Offered verdict) planned = refl

abbrev pub open_decision : Plan → Phase → Phase → Decision
open_decision plan local remote = if all_over plan local remote then Nothing else Undecided

pub stays-open : (plan : Plan) (local remote : Phase) → all_over plan local remote ≡ false
    → open_decision plan local remote ≡ Undecided
stays-open plan local remote left = ap (λ b. if b then Nothing else Undecided) left

-- ---- what an offer is told

pub offer-won : (may : Bool) → may ≡ true → offer_verdict Undecided may ≡ Won
offer-won may e = ap (λ b. if b then Won else Noted) e

offer-noted : (may : Bool) → may ≡ false → offer_verdict Undecided may ≡ Noted
offer-noted may e = ap (λ b. if b then Won else Noted) e

-- ---- the action of a race

abbrev pub racing : {H : Type 0} → ℕ → Job → Plan → List H → Progress Cause → Progress RemoteCause → Decision → Action H
racing session job plan heard local remote decision = record {
  session = session;
  plan = plan;
  job = job;
  local = local;
  remote = remote;
  heard = heard;
  decision = decision;
  entry = None;
  reply = None;
}

-- what was heard while nothing was decided, and once it is
abbrev pub heard_open : {H : Type 0} → Verdict → List H → List H
heard_open Noted all = all
heard_open Won all = []
heard_open Late all = []

abbrev pub heard_decided : {H : Type 0} → Verdict → List H → List H
heard_decided Noted all = all
heard_decided Won all = all
heard_decided Late all = []

abbrev pub open_heard : {H : Type 0} → Option (ToldEnd RemoteCause) → List H → List H
open_heard None all = []
open_heard (Some told) all = heard_open told.verdict all

abbrev pub decided_heard : {H : Type 0} → Option (ToldEnd RemoteCause) → List H → List H
decided_heard None all = []
decided_heard (Some told) all = heard_decided told.verdict all

-- they differ where the remote attempt won
same-heard-by : {H : Type 0} (verdict : Verdict) (all : List H) → is_won verdict ≡ false
    → heard_decided verdict all ≡ heard_open verdict all
same-heard-by Noted all e = refl
same-heard-by Late all e = refl
same-heard-by Won all e = false-true (sym e)

pub same-heard : {H : Type 0} (told : Option (ToldEnd RemoteCause)) (all : List H) → has_won told ≡ false
    → decided_heard told all ≡ open_heard told all
same-heard None all e = refl
same-heard (Some told) all e = same-heard-by told.verdict all e

module _ {H : Type 0} (rules : Rules H) (base : State H) (n session : ℕ) (job : Job) (plan : Plan) where
  abbrev At : List H → Progress Cause → Progress RemoteCause → Decision → Type 0
  At heard local remote decision = Reaches rules base n (racing session job plan heard local remote decision)

  -- ---- starts

  start-local : (h : List H) (r : Progress RemoteCause) → in_plan plan Local ≡ true
      → is_turn plan Local (phase_in r) ≡ true → At h Idle r Undecided → At h Running r Undecided
  start-local h r planned turn at =
      started rules base n (racing session job plan h Idle r Undecided) at Local (rw (planned, turn) refl)

  start-remote : (h : List H) (l : Progress Cause) → in_plan plan Remote ≡ true
      → At h l Idle Undecided → At h l Running Undecided
  start-remote h l planned at =
      started rules base n (racing session job plan h l Idle Undecided) at Remote
      (rw (planned, turn-remote plan phases.Idle) refl)

  -- ---- ends

  exit-local : (h : List H) (r : Progress RemoteCause) (d : Decision) (end : End Outcome Cause)
      → MayEnd local_stop job.command d end → At h Running r d → At h (Ended end) r d
  exit-local h r d end may at =
      exited rules base n (racing session job plan h Running r d) at end (record { running = refl; may_end = may })

  hear-open : (h : List H) (l : Progress Cause) (d : Decision) → LeavesOpen rules job d h
      → At [] l Running d → At h l Running d
  hear-open [] l d opens at = at
  hear-open (item ∷ earlier) l d opens at =
      subst (λ m. At (item ∷ earlier) l (ended_by m Running) d) opens.2
      (heard rules base n (racing session job plan earlier l Running d) (hear-open earlier l d opens.3 at) item
      (record { running = refl; fits = opens.0; stops = opens.1 }))

  hear-end : (h : List H) (l : Progress Cause) (d : Decision) (end : End Outcome RemoteCause)
      → LeavesEnd rules job d end h → At [] l Running d → At h l (Ended end) d
  hear-end [] l d end ends at = absurd ends
  hear-end (item ∷ earlier) l d end ends at =
      subst (λ m. At (item ∷ earlier) l (ended_by m Running) d) ends.2
      (heard rules base n (racing session job plan earlier l Running d) (hear-open earlier l d ends.3 at) item
      (record { running = refl; fits = ends.0; stops = ends.1 }))

  -- ---- ends that are offered

  pub offer-local : (h : List H) (r : Progress RemoteCause) (d : Decision) (end : End Outcome Cause) (v : Verdict)
      → MayEnd local_stop job.command d end → offer_verdict d (may_publish plan Local end) ≡ v → At h Running r d
      → At h (Offered end v) r (decision_after_offer
      (record { plan = plan; local = phases.Offered v; remote = phase_in r; decision = d }) Local v)
  offer-local h r d end v may told at =
      subst (λ v. At h (Offered end v) r (decision_after_offer
      (record { plan = plan; local = phases.Offered v; remote = phase_in r; decision = d }) Local v)) told
      (offered rules base n (racing session job plan h (Ended end) r d) (exit-local h r d end may at) Local (end, refl))

  pub offer-remote : (h : List H) (l : Progress Cause) (d : Decision) (end : End Outcome RemoteCause) (v : Verdict)
      → LeavesEnd rules job d end h → offer_verdict d (may_publish plan Remote end) ≡ v → At [] l Running d
      → At h l (Offered end v) (decision_after_offer
      (record { plan = plan; local = phase_in l; remote = phases.Offered v; decision = d }) Remote v)
  offer-remote h l d end v ends told at =
      subst (λ v. At h l (Offered end v) (decision_after_offer
      (record { plan = plan; local = phase_in l; remote = phases.Offered v; decision = d }) Remote v)) told
      (offered rules base n (racing session job plan h l (Ended end) d) (hear-end h l d end ends at) Remote (end, refl))

  -- ---- attempts

  -- the remote attempt is started, and offers where it was noted
  open-remote : (all : List H) (end : End Outcome RemoteCause) (v : Verdict) (made : Decision)
      → in_plan plan Remote ≡ true → FitsTold plan Remote (record { end = end; verdict = v })
      → LeavesEnd rules job (seen_by made v) end all → At [] Idle Idle Undecided
      → At (heard_open v all) Idle (while_open end v)
      (open_decision plan phases.Idle (phase_in (while_open end v)))
  open-remote all end Noted made planned fits ends at =
      offer-remote all Idle Undecided end Noted ends (offer-noted (may_publish plan Remote end) (fits.noted refl))
      (start-remote [] Idle planned at)
  open-remote all end Won made planned fits ends at =
      subst (At [] Idle Running) (sym (stays-open plan phases.Idle phases.Running (none-over plan)))
      (start-remote [] Idle planned at)
  open-remote all end Late made planned fits ends at =
      subst (At [] Idle Running) (sym (stays-open plan phases.Idle phases.Running (none-over plan)))
      (start-remote [] Idle planned at)

  pub begin-remote : (all : List H) (remote : Option (ToldEnd RemoteCause)) (made : Decision)
      → (is_some remote ≡ true → in_plan plan Remote ≡ true) → IfSome remote (FitsTold plan Remote)
      → HeardOf rules job made remote all → At [] Idle Idle Undecided
      → At (open_heard remote all) Idle (noted_progress remote)
      (open_decision plan phases.Idle (phase_in (noted_progress remote)))
  begin-remote all None made planned fits ends at =
      subst (At [] Idle Idle) (sym (stays-open plan phases.Idle phases.Idle (none-over plan))) at
  begin-remote all (Some told) made planned fits ends at =
      open-remote all told.end told.verdict made (planned refl) fits ends at

  -- the same of the local one
  open-local : (h : List H) (r : Progress RemoteCause) (end : End Outcome Cause) (v : Verdict) (made : Decision)
      → in_plan plan Local ≡ true → FitsTold plan Local (record { end = end; verdict = v })
      → MayEnd local_stop job.command (seen_by made v) end → At h Running r Undecided
      → At h (while_open end v) r (open_decision plan (phase_in (while_open end v)) (phase_in r))
  open-local h r end Noted made planned fits may at =
      offer-local h r Undecided end Noted may (offer-noted (may_publish plan Local end) (fits.noted refl)) at
  open-local h r end Won made planned fits may at =
      subst (At h Running r) (sym (stays-open plan phases.Running (phase_in r) (left-local plan (phase_in r) planned))) at
  open-local h r end Late made planned fits may at =
      subst (At h Running r) (sym (stays-open plan phases.Running (phase_in r) (left-local plan (phase_in r) planned))) at

  pub begin-local : (h : List H) (r : Progress RemoteCause) (local : Option (ToldEnd Cause)) (made : Decision)
      → (is_some local ≡ true → in_plan plan Local ≡ true)
      → (is_some local ≡ true → is_turn plan Local (phase_in r) ≡ true) → IfSome local (FitsTold plan Local)
      → IfSome local (λ told. MayEnd local_stop job.command (seen_by made told.verdict) told.end)
      → At h Idle r (open_decision plan phases.Idle (phase_in r))
      → At h (noted_progress local) r (open_decision plan (phase_in (noted_progress local)) (phase_in r))
  begin-local h r None made planned turn fits may at = at
  begin-local h r (Some told) made planned turn fits may at =
      open-local h r told.end told.verdict made (planned refl) fits may
      (start-local h r (planned refl) (turn refl)
      (subst (At h Idle r) (stays-open plan phases.Idle (phase_in r) (left-local plan (phase_in r) (planned refl))) at))
