-- A race as its passes were told leads to its action, step by step: what was noted first, then what decides, then what came late.
use Rattle.std.proofs.Common.{◌≡◌, ℕ, ◌&&◌, ◌||◌, Bool, true, false, List, None, refl, ap, subst}
use Rattle.std.specs.Prelude.{if◌then◌else◌}
use Rattle.rx_core.specs.Attempts.{Progress, phase_in}
use Rattle.rx_core.specs.Remote.{Job, Rules}
use Rattle.rx_core.specs.States.{State}
use Rattle.rx_core.specs.ToldRaces.{IsToldRace, ToldRace, are_all_noted, decided, decided_by, has_won, noted_progress, progress_of, raced_action}
use Rattle.rx_core.proofs.Cases.{false-true}
use Rattle.rx_core.proofs.DecidedRaces.{decide-local, decide-remote, end-local, end-remote, give-up, same-progress, won_progress}
use Rattle.rx_core.proofs.OpenRaces.{begin-local, begin-remote, decided_heard, open_decision, open_heard, racing, same-heard, stays-open, turn-open}
use Rattle.rx_core.proofs.Reaching.{Reaches, admit}
use Rattle.rx_world.specs.declared.attempts.Cause.{Cause}
use Rattle.rx_world.specs.declared.decisions.Decision.{Decision}
use Rattle.rx_world.specs.declared.decisions.Decision.TheVariants.{Nothing, Undecided}
use Rattle.rx_world.specs.declared.remote_causes.RemoteCause.{RemoteCause}
use Rattle.rx_world.specs.Decisions.{IsSettled}

-- ---- what came late

-- where another pass won, the decision is settled
pub settled-local : (local remote gone : Bool) → remote || gone ≡ true → IsSettled (decided_by local remote gone)
settled-local true remote gone e = tt
settled-local false true gone e = tt
settled-local false false true e = tt
settled-local false false false e = false-true e

pub settled-remote : (local remote gone : Bool) → local || gone ≡ true → IsSettled (decided_by local remote gone)
settled-remote true remote gone e = tt
settled-remote false true gone e = tt
settled-remote false false true e = tt
settled-remote false false false e = false-true e

-- ---- all of it

module _ {H : Type 0} (rules : Rules H) (base : State H) (n session : ℕ) (job : Job) (all : List H) (race : ToldRace)
    (is : IsToldRace rules job all race) where
  abbrev Here : List H → Progress Cause → Progress RemoteCause → Decision → Type 0
  Here heard local remote decision = Reaches rules base n (racing session job race.plan heard local remote decision)

  -- the state in which nothing is decided, or nothing is left to be
  noted : base.actions n ≡ None → Here (open_heard race.remote all) (noted_progress race.local) (noted_progress race.remote)
      (open_decision race.plan (phase_in (noted_progress race.local)) (phase_in (noted_progress race.remote)))
  noted free =
      let remote = begin-remote rules base n session job race.plan all race.remote (decided race) is.planned_remote is.fits_remote
      is.ends_remote (admit rules base n session race.plan job free) in
      begin-local rules base n session job race.plan (open_heard race.remote all) (noted_progress race.remote) race.local (decided race)
      is.planned_local (λ some. turn-open race.plan race.remote (is.turn some)) is.fits_local is.ends_local remote

  -- the state in which it is decided
  decide : (local remote gone : Bool) → has_won race.local ≡ local → has_won race.remote ≡ remote → race.cancelled ≡ gone
      → base.actions n ≡ None
      → Here (decided_heard race.remote all) (won_progress race.local) (won_progress race.remote) (decided_by local remote gone)
  decide true remote gone l r c free =
      let lost : has_won race.remote ≡ false = subst (λ won. won && has_won race.remote ≡ false) l is.one in
      rw (same-heard race.remote all lost, same-progress race.remote lost)
      (decide-local rules base n session job race.plan (open_heard race.remote all) (noted_progress race.remote) race.local (decided race)
      l is.planned_local is.fits_local is.ends_local (noted free))
  decide false true gone l r c free =
      rw (same-progress race.local l)
      (decide-remote rules base n session job race.plan all (noted_progress race.local) race.remote (decided race) r is.planned_remote
      is.fits_remote is.ends_remote (noted free))
  decide false false true l r c free =
      rw (same-heard race.remote all r, same-progress race.remote r, same-progress race.local l)
      (give-up rules base n session job race.plan (open_heard race.remote all) (noted_progress race.local) (noted_progress race.remote)
      (subst (Here (open_heard race.remote all) (noted_progress race.local) (noted_progress race.remote))
      (stays-open race.plan (phase_in (noted_progress race.local)) (phase_in (noted_progress race.remote)) (is.left c)) (noted free)))
  decide false false false l r c free =
      let over : are_all_noted race ≡ true = is.nothing (rw (l, r, c) refl) in
      rw (same-heard race.remote all r, same-progress race.remote r, same-progress race.local l)
      (subst (Here (open_heard race.remote all) (noted_progress race.local) (noted_progress race.remote))
      (ap (λ b. if b then Nothing else Undecided) over) (noted free))

  -- steps lead from a state without it to the action of the race
  pub raced : base.actions n ≡ None → Reaches rules base n (raced_action session job all race)
  raced free =
      let made = decide (has_won race.local) (has_won race.remote) race.cancelled refl refl refl free in
      let remote = end-remote rules base n session job race.plan all (won_progress race.local) race.remote (decided race)
      (λ late. settled-remote (has_won race.local) (has_won race.remote) race.cancelled (is.late_remote late)) is.ends_remote made in
      end-local rules base n session job race.plan all (progress_of race.remote) race.local (decided race)
      (λ late. settled-local (has_won race.local) (has_won race.remote) race.cancelled (is.late_local late)) is.ends_local remote
