-- What follows from the race of a plan's attempts: which of them won, and what the other was told.
use Rattle.std.proofs.Common.{◌≡◌, ◌∙◌, ◌||◌, Bool, true, false, ap, refl, subst, sym}
use Rattle.std.specs.Prelude.{◌≢◌, Err, None, Option, Some, if◌then◌else◌, is_some}
use Rattle.rx_core.proofs.Cases.{false-true, none-some, some-none}
use Rattle.rx_local.specs.Local.{HasTold, IsStopped, Tells}
use Rattle.rx_race.specs.declared.events.Verdict.{Verdict}
use Rattle.rx_race.specs.declared.events.Verdict.TheVariants.{Late, Noted, Won}
use Rattle.rx_race.specs.declared.slips.Seat.{Seat}
use Rattle.rx_race.specs.declared.slips.Seat.TheVariants.{Canceller, Of}
use Rattle.rx_race.specs.declared.slips.Slip.{Slip}
use Rattle.rx_race.specs.declared.slips.Slip.TheVariants.{Live, Refused, Stopped, Told, Unused, Yielded}
use Rattle.rx_race.specs.Locked.{IsLook, SomeoneWon, slips_of}
use Rattle.rx_race.specs.Publishing.{is_remote_only, is_zero, may_publish}
use Rattle.rx_race.specs.Slips.{slip_at, told_in}
use Rattle.rx_scan.specs.declared.gathering.Gathered.{Gathered}
use Rattle.rx_world.specs.declared.attempts.Attempt.{Attempt}
use Rattle.rx_world.specs.declared.attempts.Attempt.TheVariants.{Local, Remote}
use Rattle.rx_world.specs.declared.attempts.Cause.{Cause}
use Rattle.rx_world.specs.declared.attempts.Cause.TheVariants as causes
use Rattle.rx_world.specs.declared.attempts.End.{End}
use Rattle.rx_world.specs.declared.attempts.End.TheVariants as ends
use Rattle.rx_world.specs.declared.attempts.Plan.{Plan}
use Rattle.rx_world.specs.declared.attempts.Plan.TheVariants as plans
use Rattle.rx_world.specs.declared.decisions.Decision.{Decision}
use Rattle.rx_world.specs.declared.outcomes.Outcome.{Outcome}
use Rattle.rx_world.specs.declared.remote_causes.RemoteCause.{RemoteCause}
use Rattle.rx_engine.specs.declared.attempts.Won.{Won as Winner}
use Rattle.rx_engine.specs.declared.transcripts.Passes.{Passes}
use Rattle.rx_engine.specs.Attempts.{Attempts, HasAttempts, HasLocal, first_of, starts_here, won_remote}
use Rattle.rx_engine.specs.Meanings.{Meanings}
use Rattle.rx_engine.specs.Plans.{has_both, has_local, has_remote, is_due_here}
use Rattle.rx_engine.specs.Racing.{FitsEnd, HaveRaced, IsVerdictOn, first_by, is_cancelled, unstarted}
use Rattle.rx_engine.proofs.Cases.{late-won}

pub refused-told : (verdict : Verdict) → Refused ≡ Told verdict → ⊥
refused-told verdict h = cc

pub unused-told : (verdict : Verdict) → Unused ≡ Told verdict → ⊥
unused-told verdict h = cc

local-remote : Local ≡ Remote → ⊥
local-remote h = cc

pub unstarted-told : (due : Bool) (verdict : Verdict) → unstarted due ≡ Told verdict → ⊥
unstarted-told true verdict h = refused-told verdict h
unstarted-told false verdict h = unused-told verdict h

-- ---- one attempt

-- An attempt that offered its end was to start. It was late where it had been told of a decision, and else was told something else.
pub record WasTold {C : Type 0} (plan : Plan) (x : Attempt) (due : Bool) (told : Option Decision) (end : End Outcome C) (slip : Slip) : Type 0 where
  pub due_is : due ≡ true
  pub late : told ≢ None → told_in slip ≡ Some Late
  pub timely : told_in slip ≢ Some Late → (verdict : Verdict) × (slip ≡ Told verdict) × IsVerdictOn plan x told end verdict

pub was-told : {C : Type 0} (plan : Plan) (x : Attempt) (due : Bool) (told : Option Decision) (end : End Outcome C) (slip : Slip) → FitsEnd plan x due told (Some end) slip
    → WasTold plan x due told end slip
was-told plan x due told end (Told verdict) fits = record {
  due_is = fits.0;
  late = λ n. absurd (n fits.1.untold);
  timely = λ n. (verdict, refl, fits.1);
}
was-told plan x due told end (Yielded seen) fits = record { due_is = fits.0; late = λ n. refl; timely = λ n. absurd (n refl) }
was-told plan x due told end Unused fits = absurd fits
was-told plan x due told end Refused fits = absurd fits
was-told plan x due told end Live fits = absurd fits
was-told plan x due told end (Stopped seen) fits = absurd fits

-- an attempt that was started was to start
was-due : {C : Type 0} (plan : Plan) (x : Attempt) (due : Bool) (told : Option Decision) (ended : Option (End Outcome C)) (slip : Slip) → FitsEnd plan x due told ended slip
    → is_some ended ≡ true → due ≡ true
was-due plan x due told None slip fits s = absurd (false-true s)
was-due plan x due told (Some end) slip fits s = (was-told plan x due told end slip fits).due_is

-- where an end may be published, it isn't without an outcome for that
published : (test : Bool) (won : Winner) → test ≡ true → (if test then Some won else None) ≡ None → ⊥
published true won e n = some-none n
published false won e n = false-true e

published-there : (plan : Plan) (end : End Outcome RemoteCause) → may_publish plan Remote end ≡ true → won_remote plan (Some end) ≡ None → ⊥
published-there plan (ends.Failed cause) may n = false-true may
published-there plan (ends.Done outcome origin) may n =
    published (is_zero outcome.exit.code || is_remote_only plan) (record { outcome = outcome; origin = origin }) may n

-- a remote attempt that won has an outcome that is published
fits-won : (plan : Plan) (due : Bool) (told : Option Decision) (remote : Option (End Outcome RemoteCause)) (slip : Slip) → FitsEnd plan Remote due told remote slip → slip ≡ Told Won → won_remote plan remote ≡ None → ⊥
fits-won plan due told None slip fits won n = unstarted-told due Won (sym fits.0 ∙ won)
fits-won plan due told (Some end) slip fits won n =
    let on : (due ≡ true) × IsVerdictOn plan Remote told end Won = subst (FitsEnd plan Remote due told (Some end)) won fits in
    published-there plan end (on.1.won refl) n

-- the remote one is first only where it won
first-told : (slip : Slip) → Remote ≡ first_by slip → slip ≡ Told Won
first-told (Told Won) e = refl
first-told (Told Late) e = absurd (local-remote (sym e))
first-told (Told Noted) e = absurd (local-remote (sym e))
first-told Unused e = absurd (local-remote (sym e))
first-told Refused e = absurd (local-remote (sym e))
first-told Live e = absurd (local-remote (sym e))
first-told (Stopped seen) e = absurd (local-remote (sym e))
first-told (Yielded seen) e = absurd (local-remote (sym e))

-- an attempt that is stopped was told of a decision
stopped-told : (cause : Cause) (told : Option Decision) → Tells None told cause → IsStopped cause → told ≡ None → ⊥
stopped-told (causes.Stopped decision) told t s e = none-some (sym e ∙ t.1)
stopped-told (causes.BenchFault step) told t s e = s
stopped-told (causes.OutputMissing path) told t s e = s
stopped-told (causes.InputChanged input) told t s e = s
stopped-told (causes.OutputTooLarge limit n) told t s e = s
stopped-told (causes.SourceFault path) told t s e = s
stopped-told causes.NoMemory told t s e = s

-- ---- a race that wasn't cancelled, and in which the remote attempt has nothing that is published

module _ (plan : Plan) (told_local : Option Decision) (local : Option (End Outcome Cause)) (told_remote : Option Decision) (remote : Option (End Outcome RemoteCause)) (passes : Passes)
    (r : HaveRaced plan told_local local told_remote remote passes) (free : is_cancelled passes.cancel ≡ false) (none : won_remote plan remote ≡ None) where
  -- no other than the local one won
  not-won : (seat : Seat) → slip_at seat (slips_of passes.local passes.remote passes.cancel) ≡ Told Won → (passes.local ≡ Told Won → ⊥) → ⊥
  not-won (Of Local) won not = not won
  not-won (Of Remote) won not = fits-won plan (has_remote plan) told_remote remote passes.remote r.fits_remote won none
  not-won Canceller won not = false-true (sym free ∙ ap is_cancelled won)

  no-winner : SomeoneWon (slips_of passes.local passes.remote passes.cancel) → (passes.local ≡ Told Won → ⊥) → ⊥
  no-winner someone not = not-won someone.0 someone.1 not

  -- a local one that was to start was started
  raced-some : is_due_here plan passes.remote ≡ true → local ≡ None → ⊥
  raced-some due e =
      let left = subst (λ x. FitsEnd plan Local (is_due_here plan passes.remote) told_local x passes.local) e r.fits_local in
      let refused : passes.local ≡ Refused = left.0 ∙ ap unstarted due in
      no-winner (r.told.look Local (subst IsLook (sym refused) tt)) (λ won. refused-told Won (sym refused ∙ won))

  -- and wasn't stopped
  raced-unstopped : (why : Cause) → local ≡ Some (ends.Failed why) → HasTold None told_local (Err why) → IsStopped why → ⊥
  raced-unstopped why e t s =
      let was = was-told plan Local (is_due_here plan passes.remote) told_local (ends.Failed why) passes.local
      (subst (λ x. FitsEnd plan Local (is_due_here plan passes.remote) told_local x passes.local) e r.fits_local) in
      let late = was.late (stopped-told why told_local t s) in
      no-winner (r.told.late Local late) (late-won passes.local late)

-- ---- the attempts of a plan

-- both at once are both to start
both-due : (plan : Plan) (remote : Slip) → has_both plan ≡ true → is_due_here plan remote ≡ true
both-due plans.LocalOnly remote e = absurd (false-true e)
both-due plans.RemoteOnly remote e = absurd (false-true e)
both-due plans.Fallback remote e = absurd (false-true e)
both-due plans.Both remote e = refl

-- the local attempt was started where the remote one won nothing
starts-none : (plan : Plan) (remote : Option (End Outcome RemoteCause)) → has_local plan ≡ true → won_remote plan remote ≡ None → starts_here plan remote ≡ true
starts-none plan remote h n = rw (h, n) refl

module _ {P W B : Type 0} (m : Meanings P W B) (gathered : Gathered) (accepts : Bool) (before after : P) (attempts : Attempts) (made : HasAttempts m gathered accepts before after attempts) where
  -- the remote attempt comes first only with an outcome that is published
  pub first-won : first_of attempts ≡ Remote → won_remote gathered.plan attempts.remote ≡ None → ⊥
  first-won f n =
      fits-won gathered.plan (has_remote gathered.plan) attempts.told_remote attempts.remote attempts.passes.remote made.raced.fits_remote (first-told attempts.passes.remote (sym f)) n

  -- a remote attempt that was started is in the plan
  pub planned-there : is_some attempts.remote ≡ true → has_remote gathered.plan ≡ true
  planned-there s = was-due gathered.plan Remote (has_remote gathered.plan) attempts.told_remote attempts.remote attempts.passes.remote made.raced.fits_remote s

  module _ (free : is_cancelled attempts.passes.cancel ≡ false) (has : has_local gathered.plan ≡ true) (none : won_remote gathered.plan attempts.remote ≡ None) where
    started-by : (both : Bool) → has_both gathered.plan ≡ both → attempts.local ≡ None → ⊥
    started-by false e n = false-true (sym (ap is_some n) ∙ (made.in_turn e free).started_here ∙ starts-none gathered.plan attempts.remote has none)
    started-by true e n =
        raced-some gathered.plan attempts.told_local attempts.local attempts.told_remote attempts.remote attempts.passes made.raced free none (both-due gathered.plan attempts.passes.remote e) n

    -- where the remote attempt has nothing to publish and nobody cancelled, the local one was started
    pub started-here : attempts.local ≡ None → ⊥
    started-here n = started-by (has_both gathered.plan) refl n

    -- and wasn't stopped
    pub unstopped-here : (why : Cause) → attempts.local ≡ Some (ends.Failed why) → IsStopped why → ⊥
    unstopped-here why f s =
        raced-unstopped gathered.plan attempts.told_local attempts.local attempts.told_remote attempts.remote attempts.passes made.raced free none why f
        (subst (HasLocal m gathered attempts.told_local before after) f made.local).stopped s
