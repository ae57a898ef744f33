-- What the pass of each attempt was told, and what the core has of that attempt: they fit.
use Rattle.std.proofs.Common.{◌≡◌, ◌∙◌, Bool, true, false, Option, None, Some, ap, refl, sym}
use Rattle.std.specs.Prelude.{IfSome, is_some}
use Rattle.rx_core.specs.Attempts.{end_in, phase_in}
use Rattle.rx_core.specs.ToldRaces.{FitsTold, ToldEnd, has_come_late, has_won, is_late, is_won, noted_progress, progress_of}
use Rattle.rx_core.proofs.Cases.{false-true}
use Rattle.rx_engine.specs.Plans.{has_remote, is_due_here, is_noted}
use Rattle.rx_engine.specs.Racing.{FitsEnd, is_told_won, unstarted}
use Rattle.rx_race.specs.declared.events.Verdict.TheVariants.{Late, Noted, Won}
use Rattle.rx_race.specs.declared.slips.Slip.{Slip}
use Rattle.rx_race.specs.declared.slips.Slip.TheVariants.{Live, Refused, Stopped, Told, Unused, Yielded}
use Rattle.rx_race.specs.Slips.{told_in}
use Rattle.rx_race.specs.Standings.{in_plan, is_offered, is_turn}
use Rattle.rx_world.specs.declared.attempts.Attempt.{Attempt}
use Rattle.rx_world.specs.declared.attempts.Attempt.TheVariants.{Local, Remote}
use Rattle.rx_world.specs.declared.attempts.End.{End}
use Rattle.rx_world.specs.declared.attempts.Plan.{Plan}
use Rattle.rx_world.specs.declared.attempts.Plan.TheVariants.{Both, Fallback, LocalOnly, RemoteOnly}
use Rattle.rx_world.specs.declared.decisions.Decision.{Decision}
use Rattle.rx_world.specs.declared.outcomes.Outcome.{Outcome}
use Rattle.rx_world.specs.declared.remote_causes.RemoteCause.{RemoteCause}
use Rattle.rx_daemon.specs.CoreRuns.{HasPass}

-- ---- slips

unstarted-won : (due : Bool) → is_told_won (unstarted due) ≡ false
unstarted-won true = refl
unstarted-won false = refl

unstarted-noted : (due : Bool) → is_noted (unstarted due) ≡ false
unstarted-noted true = refl
unstarted-noted false = refl

-- ---- one attempt

-- what the core has of an attempt with this end and this slip
abbrev pub told_as : {C : Type 0} → Option (End Outcome C) → Slip → Option (ToldEnd C)
told_as None slip = None
told_as (Some end) (Told verdict) = Some (record { end = end; verdict = verdict })
told_as (Some end) (Yielded seen) = Some (record { end = end; verdict = Late })
told_as (Some end) Unused = None
told_as (Some end) Refused = None
told_as (Some end) Live = None
told_as (Some end) (Stopped seen) = None

-- an end that the core has as late came late
pub late-told : {C : Type 0} (end : Option (End Outcome C)) (slip : Slip) → has_come_late (told_as end slip) ≡ true → told_in slip ≡ Some Late
late-told None slip e = false-true e
late-told (Some end) (Told Late) e = refl
late-told (Some end) (Told Won) e = false-true e
late-told (Some end) (Told Noted) e = false-true e
late-told (Some end) (Yielded seen) e = refl
late-told (Some end) Unused e = false-true e
late-told (Some end) Refused e = false-true e
late-told (Some end) Live e = false-true e
late-told (Some end) (Stopped seen) e = false-true e

module _ {C : Type 0} (plan : Plan) (x : Attempt) (due : Bool) (told : Option Decision) where
  abbrev Fits : Option (End Outcome C) → Slip → Type 0
  Fits end slip = FitsEnd plan x due told end slip

  pub same-won : (end : Option (End Outcome C)) (slip : Slip) → Fits end slip → has_won (told_as end slip) ≡ is_told_won slip
  same-won None slip fits = sym (ap is_told_won fits.0 ∙ unstarted-won due)
  same-won (Some end) (Told Won) fits = refl
  same-won (Some end) (Told Late) fits = refl
  same-won (Some end) (Told Noted) fits = refl
  same-won (Some end) Unused fits = absurd fits
  same-won (Some end) Refused fits = absurd fits
  same-won (Some end) Live fits = absurd fits
  same-won (Some end) (Stopped seen) fits = absurd fits
  same-won (Some end) (Yielded seen) fits = refl

  pub started-due : (end : Option (End Outcome C)) (slip : Slip) → Fits end slip → is_some (told_as end slip) ≡ true → due ≡ true
  started-due None slip fits e = false-true e
  started-due (Some end) (Told verdict) fits e = fits.0
  started-due (Some end) Unused fits e = absurd fits
  started-due (Some end) Refused fits e = absurd fits
  started-due (Some end) Live fits e = absurd fits
  started-due (Some end) (Stopped seen) fits e = absurd fits
  started-due (Some end) (Yielded seen) fits e = fits.0

  pub fits-told : (end : Option (End Outcome C)) (slip : Slip) → Fits end slip → IfSome (told_as end slip) (FitsTold plan x)
  fits-told None slip fits = tt
  fits-told (Some end) (Told verdict) fits = record { won = fits.1.won; noted = fits.1.noted }
  fits-told (Some end) Unused fits = absurd fits
  fits-told (Some end) Refused fits = absurd fits
  fits-told (Some end) Live fits = absurd fits
  fits-told (Some end) (Stopped seen) fits = absurd fits
  fits-told (Some end) (Yielded seen) fits = record { won = λ e. false-true (ap is_won e); noted = λ e. false-true (sym (ap is_late e)) }

  -- its end is the attempt's
  pub same-end : (end : Option (End Outcome C)) (slip : Slip) → Fits end slip → end_in (progress_of (told_as end slip)) ≡ end
  same-end None slip fits = refl
  same-end (Some end) (Told verdict) fits = refl
  same-end (Some end) (Yielded seen) fits = refl
  same-end (Some end) Unused fits = absurd fits
  same-end (Some end) Refused fits = absurd fits
  same-end (Some end) Live fits = absurd fits
  same-end (Some end) (Stopped seen) fits = absurd fits

  pub has-pass : (end : Option (End Outcome C)) (slip : Slip) → Fits end slip → HasPass (progress_of (told_as end slip)) slip
  has-pass None slip fits = (due, fits.0)
  has-pass (Some end) (Told verdict) fits = refl
  has-pass (Some end) Unused fits = absurd fits
  has-pass (Some end) Refused fits = absurd fits
  has-pass (Some end) Live fits = absurd fits
  has-pass (Some end) (Stopped seen) fits = absurd fits
  has-pass (Some end) (Yielded seen) fits = refl

  -- one that was noted has offered while nothing was decided, and no other has
  pub offered-noted : (end : Option (End Outcome C)) (slip : Slip) → Fits end slip → slip ≡ Told Noted
      → is_offered (phase_in (noted_progress (told_as end slip))) ≡ true
  offered-noted None slip fits e = false-true (sym (unstarted-noted due) ∙ ap is_noted (sym fits.0 ∙ e))
  offered-noted (Some end) (Told Noted) fits e = refl
  offered-noted (Some end) (Told Won) fits e = false-true (ap is_noted e)
  offered-noted (Some end) (Told Late) fits e = false-true (ap is_noted e)
  offered-noted (Some end) Unused fits e = absurd fits
  offered-noted (Some end) Refused fits e = absurd fits
  offered-noted (Some end) Live fits e = absurd fits
  offered-noted (Some end) (Stopped seen) fits e = absurd fits
  offered-noted (Some end) (Yielded seen) fits e = false-true (ap is_noted e)

  pub noted-offered : (end : Option (End Outcome C)) (slip : Slip) → is_offered (phase_in (noted_progress (told_as end slip))) ≡ true
      → slip ≡ Told Noted
  noted-offered None slip e = false-true e
  noted-offered (Some end) (Told Noted) e = refl
  noted-offered (Some end) (Told Won) e = false-true e
  noted-offered (Some end) (Told Late) e = false-true e
  noted-offered (Some end) Unused e = false-true e
  noted-offered (Some end) Refused e = false-true e
  noted-offered (Some end) Live e = false-true e
  noted-offered (Some end) (Stopped seen) e = false-true e
  noted-offered (Some end) (Yielded seen) e = false-true e

-- ---- plans

pub planned-local : (plan : Plan) (remote : Slip) → is_due_here plan remote ≡ true → in_plan plan Local ≡ true
planned-local LocalOnly remote e = refl
planned-local RemoteOnly remote e = e
planned-local Fallback remote e = refl
planned-local Both remote e = refl

pub planned-remote : (plan : Plan) → has_remote plan ≡ true → in_plan plan Remote ≡ true
planned-remote LocalOnly e = e
planned-remote RemoteOnly e = refl
planned-remote Fallback e = refl
planned-remote Both e = refl

pub same-remote : (plan : Plan) → has_remote plan ≡ in_plan plan Remote
same-remote LocalOnly = refl
same-remote RemoteOnly = refl
same-remote Fallback = refl
same-remote Both = refl

noted-turn : (told : Option Decision) (end : Option (End Outcome RemoteCause)) (slip : Slip)
    → FitsEnd Fallback Remote true told end slip → is_noted slip ≡ true
    → is_turn Fallback Local (phase_in (progress_of (told_as end slip))) ≡ true
noted-turn told None slip fits e = false-true (sym (unstarted-noted true) ∙ ap is_noted (sym fits.0) ∙ e)
noted-turn told (Some end) (Told Noted) fits e = refl
noted-turn told (Some end) (Told Won) fits e = false-true e
noted-turn told (Some end) (Told Late) fits e = false-true e
noted-turn told (Some end) Unused fits e = absurd fits
noted-turn told (Some end) Refused fits e = absurd fits
noted-turn told (Some end) Live fits e = absurd fits
noted-turn told (Some end) (Stopped seen) fits e = absurd fits
noted-turn told (Some end) (Yielded seen) fits e = false-true e

-- a local attempt that was to start had its turn
pub has-turn : (plan : Plan) (told : Option Decision) (end : Option (End Outcome RemoteCause)) (slip : Slip)
    → FitsEnd plan Remote (has_remote plan) told end slip → is_due_here plan slip ≡ true
    → is_turn plan Local (phase_in (progress_of (told_as end slip))) ≡ true
has-turn LocalOnly told end slip fits e = refl
has-turn RemoteOnly told end slip fits e = refl
has-turn Both told end slip fits e = refl
has-turn Fallback told end slip fits e = noted-turn told end slip fits e
