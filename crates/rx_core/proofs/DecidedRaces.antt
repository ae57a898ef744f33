-- A race once it is decided: the attempt that won, and then what came late.
use Rattle.std.proofs.Common.{◌≡◌, ℕ, true, false, List, [], Option, None, Some, refl, sym, subst}
use Rattle.std.specs.Prelude.{IfSome, is_some}
use Rattle.rx_core.specs.Attempts.{Idle, MayEnd, Offered, Progress, Running, local_stop, phase_in}
use Rattle.rx_core.specs.Remote.{Job, Rules}
use Rattle.rx_core.specs.States.{State}
use Rattle.rx_core.specs.ToldRaces.{FitsTold, HeardOf, LeavesEnd, ToldEnd, has_come_late, has_won, is_late, is_won, noted_progress, progress_of, seen_by, while_open}
use Rattle.rx_core.proofs.Cases.{false-true}
use Rattle.rx_core.proofs.OpenRaces.{decided_heard, heard_decided, heard_open, left-local, left-remote, offer-local, offer-remote, offer-won, open_decision, open_heard, racing, stays-open}
use Rattle.rx_core.proofs.Reaching.{Reaches, cancelled}
use Rattle.rx_race.specs.declared.events.Verdict.{Verdict}
use Rattle.rx_race.specs.declared.events.Verdict.TheVariants.{Late, Noted, Won}
use Rattle.rx_race.specs.declared.standing.Phase.TheVariants as phases
use Rattle.rx_race.specs.Publishing.{may_publish}
use Rattle.rx_race.specs.Standings.{in_plan}
use Rattle.rx_race.proofs.LockLemmas.{settled-late}
use Rattle.rx_world.specs.declared.attempts.Attempt.TheVariants.{Local, Remote}
use Rattle.rx_world.specs.declared.attempts.Cause.{Cause}
use Rattle.rx_world.specs.declared.attempts.End.{End}
use Rattle.rx_world.specs.declared.attempts.Plan.{Plan}
use Rattle.rx_world.specs.declared.decisions.Decision.{Decision}
use Rattle.rx_world.specs.declared.decisions.Decision.TheVariants.{By, Cancelled, Undecided}
use Rattle.rx_world.specs.declared.outcomes.Outcome.{Outcome}
use Rattle.rx_world.specs.declared.remote_causes.RemoteCause.{RemoteCause}
use Rattle.rx_world.specs.Decisions.{IsSettled}

-- how far an attempt is once it is decided: one that is late still runs
abbrev once_decided : {C : Type 0} → End Outcome C → Verdict → Progress C
once_decided end Noted = Offered end Noted
once_decided end Won = Offered end Won
once_decided end Late = Running

abbrev pub won_progress : {C : Type 0} → Option (ToldEnd C) → Progress C
won_progress None = Idle
won_progress (Some told) = once_decided told.end told.verdict

same-open : {C : Type 0} (end : End Outcome C) (verdict : Verdict) → is_won verdict ≡ false
    → once_decided end verdict ≡ while_open end verdict
same-open end Noted e = refl
same-open end Late e = refl
same-open end Won e = false-true (sym e)

-- what didn't win is as it was
pub same-progress : {C : Type 0} (told : Option (ToldEnd C)) → has_won told ≡ false → won_progress told ≡ noted_progress told
same-progress None e = refl
same-progress (Some told) e = same-open told.end told.verdict e

module _ {H : Type 0} (rules : Rules H) (base : State H) (n session : ℕ) (job : Job) (plan : Plan) where
  abbrev At : List H → Progress Cause → Progress RemoteCause → Decision → Type 0
  At heard local remote decision = Reaches rules base n (racing session job plan heard local remote decision)

  -- ---- the one that decides

  win-local : (h : List H) (r : Progress RemoteCause) (end : End Outcome Cause) (v : Verdict) (made : Decision)
      → is_won v ≡ true → in_plan plan Local ≡ true → FitsTold plan Local (record { end = end; verdict = v })
      → MayEnd local_stop job.command (seen_by made v) end
      → At h (while_open end v) r (open_decision plan (phase_in (while_open end v)) (phase_in r))
      → At h (once_decided end v) r (By Local)
  win-local h r end Won made won planned fits may at =
      offer-local rules base n session job plan h r Undecided end Won may (offer-won (may_publish plan Local end) (fits.won refl))
      (subst (At h Running r) (stays-open plan phases.Running (phase_in r) (left-local plan (phase_in r) planned)) at)
  win-local h r end Late made won planned fits may at = false-true won
  win-local h r end Noted made won planned fits may at = false-true won

  win-remote : (all : List H) (l : Progress Cause) (end : End Outcome RemoteCause) (v : Verdict) (made : Decision)
      → is_won v ≡ true → in_plan plan Remote ≡ true → FitsTold plan Remote (record { end = end; verdict = v })
      → LeavesEnd rules job (seen_by made v) end all
      → At (heard_open v all) l (while_open end v) (open_decision plan (phase_in l) (phase_in (while_open end v)))
      → At (heard_decided v all) l (once_decided end v) (By Remote)
  win-remote all l end Won made won planned fits ends at =
      offer-remote rules base n session job plan all l Undecided end Won ends (offer-won (may_publish plan Remote end) (fits.won refl))
      (subst (At [] l Running) (stays-open plan (phase_in l) phases.Running (left-remote plan (phase_in l) planned)) at)
  win-remote all l end Late made won planned fits ends at = false-true won
  win-remote all l end Noted made won planned fits ends at = false-true won

  -- who decides, by who won
  pub decide-local : (h : List H) (r : Progress RemoteCause) (local : Option (ToldEnd Cause)) (made : Decision)
      → has_won local ≡ true → (is_some local ≡ true → in_plan plan Local ≡ true) → IfSome local (FitsTold plan Local)
      → IfSome local (λ told. MayEnd local_stop job.command (seen_by made told.verdict) told.end)
      → At h (noted_progress local) r (open_decision plan (phase_in (noted_progress local)) (phase_in r))
      → At h (won_progress local) r (By Local)
  decide-local h r None made won planned fits may at = false-true won
  decide-local h r (Some told) made won planned fits may at =
      win-local h r told.end told.verdict made won (planned refl) fits may at

  pub decide-remote : (all : List H) (l : Progress Cause) (remote : Option (ToldEnd RemoteCause)) (made : Decision)
      → has_won remote ≡ true → (is_some remote ≡ true → in_plan plan Remote ≡ true) → IfSome remote (FitsTold plan Remote)
      → HeardOf rules job made remote all
      → At (open_heard remote all) l (noted_progress remote) (open_decision plan (phase_in l) (phase_in (noted_progress remote)))
      → At (decided_heard remote all) l (won_progress remote) (By Remote)
  decide-remote all l None made won planned fits ends at = false-true won
  decide-remote all l (Some told) made won planned fits ends at =
      win-remote all l told.end told.verdict made won (planned refl) fits ends at

  pub give-up : (h : List H) (l : Progress Cause) (r : Progress RemoteCause)
      → At h l r Undecided → At h l r Cancelled
  give-up h l r at = cancelled rules base n (racing session job plan h l r Undecided) at

  -- ---- what came late

  late-local : (h : List H) (r : Progress RemoteCause) (end : End Outcome Cause) (v : Verdict) (made : Decision)
      → (is_late v ≡ true → IsSettled made) → MayEnd local_stop job.command (seen_by made v) end
      → At h (once_decided end v) r made → At h (Offered end v) r made
  late-local h r end Won made settled may at = at
  late-local h r end Noted made settled may at = at
  late-local h r end Late made settled may at =
      offer-local rules base n session job plan h r made end Late may (settled-late made (may_publish plan Local end) (settled refl)) at

  late-remote : (all : List H) (l : Progress Cause) (end : End Outcome RemoteCause) (v : Verdict) (made : Decision)
      → (is_late v ≡ true → IsSettled made) → LeavesEnd rules job (seen_by made v) end all
      → At (heard_decided v all) l (once_decided end v) made → At all l (Offered end v) made
  late-remote all l end Won made settled ends at = at
  late-remote all l end Noted made settled ends at = at
  late-remote all l end Late made settled ends at =
      offer-remote rules base n session job plan all l made end Late ends (settled-late made (may_publish plan Remote end) (settled refl)) at

  -- the late ones of both
  pub end-local : (h : List H) (r : Progress RemoteCause) (local : Option (ToldEnd Cause)) (made : Decision)
      → (has_come_late local ≡ true → IsSettled made)
      → IfSome local (λ told. MayEnd local_stop job.command (seen_by made told.verdict) told.end)
      → At h (won_progress local) r made → At h (progress_of local) r made
  end-local h r None made settled may at = at
  end-local h r (Some told) made settled may at = late-local h r told.end told.verdict made settled may at

  pub end-remote : (all : List H) (l : Progress Cause) (remote : Option (ToldEnd RemoteCause)) (made : Decision)
      → (has_come_late remote ≡ true → IsSettled made) → HeardOf rules job made remote all
      → At (decided_heard remote all) l (won_progress remote) made → At all l (progress_of remote) made
  end-remote all l None made settled none at = subst (λ h. At h l Idle made) (sym none) at
  end-remote all l (Some told) made settled ends at = late-remote all l told.end told.verdict made settled ends at
