-- A race of a plan that hasn't both attempts at once and wasn't cancelled: they came in turn, and nothing stopped them.
use Rattle.std.proofs.Common.{◌≡◌, ◌∙◌, ◌⊎◌, ◌||◌, Bool, true, false, ap, inl, inr, refl, subst, sym}
use Rattle.std.specs.Prelude.{None, Option, Some, if◌then◌else◌, is_some}
use Rattle.rx_core.proofs.Cases.{false-true}
use Rattle.rx_race.specs.declared.events.Verdict.{Verdict}
use Rattle.rx_race.specs.declared.events.Verdict.TheVariants.{Late, Noted, Won}
use Rattle.rx_race.specs.declared.slips.Seat.TheVariants.{Canceller, Of}
use Rattle.rx_race.specs.declared.slips.Slip.{Slip}
use Rattle.rx_race.specs.declared.slips.Slip.TheVariants.{Live, Refused, Stopped, Told, Unused, Yielded}
use Rattle.rx_race.specs.Locked.{IsLook, SomeoneWon, slips_of}
use Rattle.rx_race.specs.Publishing.{is_remote_only, is_zero, may_publish}
use Rattle.rx_race.specs.Slips.{told_in}
use Rattle.rx_world.specs.declared.attempts.Attempt.{Attempt}
use Rattle.rx_world.specs.declared.attempts.Attempt.TheVariants.{Local, Remote}
use Rattle.rx_world.specs.declared.attempts.Cause.{Cause}
use Rattle.rx_world.specs.declared.attempts.End.{End}
use Rattle.rx_world.specs.declared.attempts.End.TheVariants as ends
use Rattle.rx_world.specs.declared.attempts.Plan.{Plan}
use Rattle.rx_world.specs.declared.attempts.Plan.TheVariants.{Both, Fallback, LocalOnly, RemoteOnly}
use Rattle.rx_world.specs.declared.decisions.Decision.{Decision}
use Rattle.rx_world.specs.declared.outcomes.Outcome.{Outcome}
use Rattle.rx_world.specs.declared.remote_causes.RemoteCause.{RemoteCause}
use Rattle.rx_engine.specs.declared.attempts.Won.{Won as Winner}
use Rattle.rx_engine.specs.declared.transcripts.Passes.{Passes}
use Rattle.rx_engine.specs.Attempts.{AreInTurn, Attempts, won_remote}
use Rattle.rx_engine.specs.Plans.{has_both, is_noted}
use Rattle.rx_engine.specs.Racing.{FitsEnd, HaveRaced, IsVerdictOn, is_cancelled}
use Rattle.rx_engine.proofs.Cases.{late-won}
use Rattle.rx_engine.proofs.RaceLemmas.{refused-told, unused-told, was-told}

noted-told : Told Noted ≡ Told Won → ⊥
noted-told h = cc

-- ---- one attempt

-- it wasn't to start, and didn't
record IsLeftOut {C : Type 0} (told : Option Decision) (ended : Option (End Outcome C)) (slip : Slip) : Type 0 where
  end_is : ended ≡ None
  slip_is : slip ≡ Unused
  told_is : told ≡ None

left-out : {C : Type 0} (plan : Plan) (x : Attempt) (told : Option Decision) (ended : Option (End Outcome C)) (slip : Slip) → FitsEnd plan x false told ended slip → IsLeftOut told ended slip
left-out plan x told None slip fits = record { end_is = refl; slip_is = fits.0; told_is = fits.1 }
left-out plan x told (Some end) slip fits = absurd (false-true (was-told plan x false told end slip fits).due_is)

-- it ended without having been told of a decision
record HasEnded {C : Type 0} (plan : Plan) (x : Attempt) (told : Option Decision) (ended : Option (End Outcome C)) (slip : Slip) : Type 0 where
  end : End Outcome C
  verdict : Verdict
  end_is : ended ≡ Some end
  slip_is : slip ≡ Told verdict
  on : IsVerdictOn plan x told end verdict
  told_is : told ≡ None

has-ended : {C : Type 0} (plan : Plan) (x : Attempt) (told : Option Decision) (ended : Option (End Outcome C)) (slip : Slip) → FitsEnd plan x true told ended slip
    → (slip ≡ Refused → ⊥) → (told_in slip ≡ Some Late → ⊥) → HasEnded plan x told ended slip
has-ended plan x told None slip fits look late = absurd (look fits.0)
has-ended plan x told (Some end) slip fits look late =
    let was = (was-told plan x true told end slip fits).timely late in
    record { end = end; verdict = was.0; end_is = refl; slip_is = was.1; on = was.2; told_is = was.2.untold }

-- a remote end is published exactly where it may be
is-some-if : (test : Bool) (won : Winner) → is_some (if test then Some won else None) ≡ test
is-some-if true won = refl
is-some-if false won = refl

won-may : (plan : Plan) (end : End Outcome RemoteCause) → is_some (won_remote plan (Some end)) ≡ may_publish plan Remote end
won-may plan (ends.Failed cause) = refl
won-may plan (ends.Done outcome origin) = is-some-if (is_zero outcome.exit.code || is_remote_only plan) (record { outcome = outcome; origin = origin })

-- ---- the race of a plan

module _ (plan : Plan) (local : Option (End Outcome Cause)) (remote : Option (End Outcome RemoteCause)) (told_local told_remote : Option Decision) (passes : Passes)
    (r : HaveRaced plan told_local local told_remote remote passes) (free : is_cancelled passes.cancel ≡ false) where
  -- an attempt won, since nobody cancelled
  who-won : SomeoneWon (slips_of passes.local passes.remote passes.cancel) → (passes.local ≡ Told Won) ⊎ (passes.remote ≡ Told Won)
  who-won (Of Local, won) = inl won
  who-won (Of Remote, won) = inr won
  who-won (Canceller, won) = absurd (false-true (sym free ∙ ap is_cancelled won))

  -- the local attempt was neither refused nor late where the remote one didn't win
  here-look : (passes.remote ≡ Told Won → ⊥) → passes.local ≡ Refused → ⊥
  here-look n e = elim (who-won (r.told.look Local (subst IsLook (sym e) tt))) [ inl won ↦ refused-told Won (sym e ∙ won) | inr won ↦ n won ]

  here-late : (passes.remote ≡ Told Won → ⊥) → told_in passes.local ≡ Some Late → ⊥
  here-late n e = elim (who-won (r.told.late Local e)) [ inl won ↦ late-won passes.local e won | inr won ↦ n won ]

  -- and so the remote one where the local one didn't
  there-look : (passes.local ≡ Told Won → ⊥) → passes.remote ≡ Refused → ⊥
  there-look n e = elim (who-won (r.told.look Remote (subst IsLook (sym e) tt))) [ inl won ↦ n won | inr won ↦ refused-told Won (sym e ∙ won) ]

  there-late : (passes.local ≡ Told Won → ⊥) → told_in passes.remote ≡ Some Late → ⊥
  there-late n e = elim (who-won (r.told.late Remote e)) [ inl won ↦ n won | inr won ↦ late-won passes.remote e won ]

-- the attempts of a race
abbrev attempts_of : Option (End Outcome Cause) → Option (End Outcome RemoteCause) → Option Decision → Option Decision → Passes → Attempts
attempts_of local remote told_local told_remote passes = record { local = local; remote = remote; told_local = told_local; told_remote = told_remote; passes = passes }

module _ (local : Option (End Outcome Cause)) (remote : Option (End Outcome RemoteCause)) (told_local told_remote : Option Decision) (passes : Passes) where
  local-alone : HaveRaced LocalOnly told_local local told_remote remote passes → is_cancelled passes.cancel ≡ false → AreInTurn LocalOnly (attempts_of local remote told_local told_remote passes)
  local-alone r free =
      let far = left-out LocalOnly Remote told_remote remote passes.remote r.fits_remote in
      let lost : passes.remote ≡ Told Won → ⊥ = λ won. unused-told Won (sym far.slip_is ∙ won) in
      let near = has-ended LocalOnly Local told_local local passes.local r.fits_local
      (here-look LocalOnly local remote told_local told_remote passes r free lost) (here-late LocalOnly local remote told_local told_remote passes r free lost) in
      record {
        started_here = rw (near.end_is, far.end_is) refl;
        started_there = rw far.end_is refl;
        told_local_is = near.told_is;
        told_remote_is = far.told_is;
      }

  remote-alone : HaveRaced RemoteOnly told_local local told_remote remote passes → is_cancelled passes.cancel ≡ false → AreInTurn RemoteOnly (attempts_of local remote told_local told_remote passes)
  remote-alone r free =
      let near = left-out RemoteOnly Local told_local local passes.local r.fits_local in
      let lost : passes.local ≡ Told Won → ⊥ = λ won. unused-told Won (sym near.slip_is ∙ won) in
      let far = has-ended RemoteOnly Remote told_remote remote passes.remote r.fits_remote
      (there-look RemoteOnly local remote told_local told_remote passes r free lost) (there-late RemoteOnly local remote told_local told_remote passes r free lost) in
      record {
        started_here = rw near.end_is refl;
        started_there = rw far.end_is refl;
        told_local_is = near.told_is;
        told_remote_is = far.told_is;
      }

  module _ (r : HaveRaced Fallback told_local local told_remote remote passes) (free : is_cancelled passes.cancel ≡ false) where
    -- by what became of the remote pass, whether the local attempt is to start
    by-remote : (slip : Slip) → passes.remote ≡ slip → FitsEnd Fallback Local (is_noted slip) told_local local passes.local
    by-remote slip e = subst (λ x. FitsEnd Fallback Local (is_noted x) told_local local passes.local) e r.fits_local

    -- it isn't where that was refused or late, so neither comes to be
    not-refused : passes.remote ≡ Refused → ⊥
    not-refused e =
        let near = left-out Fallback Local told_local local passes.local (by-remote Refused e) in
        there-look Fallback local remote told_local told_remote passes r free (λ won. unused-told Won (sym near.slip_is ∙ won)) e

    late-noted : (slip : Slip) → told_in slip ≡ Some Late → is_noted slip ≡ false
    late-noted (Told Noted) e = cc
    late-noted (Told Won) e = refl
    late-noted (Told Late) e = refl
    late-noted (Yielded seen) e = refl
    late-noted Unused e = refl
    late-noted Refused e = refl
    late-noted Live e = refl
    late-noted (Stopped seen) e = refl

    not-late : told_in passes.remote ≡ Some Late → ⊥
    not-late e =
        let fits = subst (λ due. FitsEnd Fallback Local due told_local local passes.local) (late-noted passes.remote e) r.fits_local in
        let near = left-out Fallback Local told_local local passes.local fits in
        there-late Fallback local remote told_local told_remote passes r free (λ won. unused-told Won (sym near.slip_is ∙ won)) e

    after-remote : (end : End Outcome RemoteCause) (verdict : Verdict) → remote ≡ Some end → passes.remote ≡ Told verdict → IsVerdictOn Fallback Remote told_remote end verdict
        → told_remote ≡ None → AreInTurn Fallback (attempts_of local remote told_local told_remote passes)
    after-remote end Won is e on none =
        let near = left-out Fallback Local told_local local passes.local (by-remote (Told Won) e) in
        record {
          started_here = rw (near.end_is, is, won-may Fallback end, on.won refl) refl;
          started_there = rw is refl;
          told_local_is = near.told_is;
          told_remote_is = none;
        }
    after-remote end Noted is e on none =
        let lost : passes.remote ≡ Told Won → ⊥ = λ won. noted-told (sym e ∙ won) in
        let near = has-ended Fallback Local told_local local passes.local (by-remote (Told Noted) e)
        (here-look Fallback local remote told_local told_remote passes r free lost) (here-late Fallback local remote told_local told_remote passes r free lost) in
        record {
          started_here = rw (near.end_is, is, won-may Fallback end, on.noted refl) refl;
          started_there = rw is refl;
          told_local_is = near.told_is;
          told_remote_is = none;
        }
    after-remote end Late is e on none = absurd (not-late (ap told_in e))

    fallen-back : AreInTurn Fallback (attempts_of local remote told_local told_remote passes)
    fallen-back =
        let far = has-ended Fallback Remote told_remote remote passes.remote r.fits_remote not-refused not-late in
        after-remote far.end far.verdict far.end_is far.slip_is far.on far.told_is

pub in-turn : (plan : Plan) (local : Option (End Outcome Cause)) (remote : Option (End Outcome RemoteCause)) (told_local told_remote : Option Decision) (passes : Passes)
    → HaveRaced plan told_local local told_remote remote passes → has_both plan ≡ false → is_cancelled passes.cancel ≡ false → AreInTurn plan (attempts_of local remote told_local told_remote passes)
in-turn LocalOnly local remote told_local told_remote passes r f free = local-alone local remote told_local told_remote passes r free
in-turn RemoteOnly local remote told_local told_remote passes r f free = remote-alone local remote told_local told_remote passes r free
in-turn Fallback local remote told_local told_remote passes r f free = fallen-back local remote told_local told_remote passes r free
in-turn Both local remote told_local told_remote passes r f free = absurd (false-true (sym f))
