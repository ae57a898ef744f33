-- The attempts of a plan in a race of their own: what became of its passes.
use Rattle.std.specs.Prelude.{◌≡◌, Bool, Option, None, Some, IfSome, false, true}
use Rattle.rx_race.specs.declared.events.Verdict.{Verdict}
use Rattle.rx_race.specs.declared.events.Verdict.TheVariants.{Late, Noted, Won}
use Rattle.rx_race.specs.declared.slips.Slip.{Slip}
use Rattle.rx_race.specs.declared.slips.Slip.TheVariants.{Live, Refused, Stopped, Told, Unused, Yielded}
use Rattle.rx_race.specs.Locked.{AreTold, slips_of}
use Rattle.rx_race.specs.Publishing.{may_publish}
use Rattle.rx_world.specs.declared.attempts.Attempt.{Attempt}
use Rattle.rx_world.specs.declared.attempts.Attempt.TheVariants.{Local, Remote}
use Rattle.rx_world.specs.declared.attempts.Cause.{Cause}
use Rattle.rx_world.specs.declared.attempts.End.{End}
use Rattle.rx_world.specs.declared.attempts.Plan.{Plan}
use Rattle.rx_world.specs.declared.decisions.Decision.{Decision}
use Rattle.rx_world.specs.declared.outcomes.Outcome.{Outcome}
use Rattle.rx_world.specs.declared.remote_causes.RemoteCause.{RemoteCause}
use Rattle.rx_engine.specs.declared.transcripts.Passes.{Passes}
use Rattle.rx_engine.specs.Plans.{has_remote, is_due_here}

-- the passes of a race that was never begun
abbrev pub unused_passes : Passes
unused_passes = record { local = Unused; remote = Unused; cancel = Unused }

-- The end of an attempt that had been told of no decision was told what fits it: it won only where it may be published, and was noted only
-- where it may not.
pub record IsVerdictOn {C : Type 0} (plan : Plan) (x : Attempt) (told : Option Decision) (end : End Outcome C) (verdict : Verdict) : Type 0 where
  pub won : verdict ≡ Won → may_publish plan x end ≡ true
  pub noted : verdict ≡ Noted → may_publish plan x end ≡ false
  pub untold : told ≡ None

-- the pass of an attempt that didn't start: it was refused or, where the attempt wasn't to start, not used
abbrev pub unstarted : Bool → Slip
unstarted true = Refused
unstarted false = Unused

-- What became of the pass of an attempt, by whether it was to start and by its end. Without an end it didn't start, and was told nothing.
-- The pass of one that had been told of a decision says which.
abbrev pub FitsEnd : {C : Type 0} → Plan → Attempt → Bool → Option Decision → Option (End Outcome C) → Slip → Type 0
FitsEnd plan x due told None slip = (slip ≡ unstarted due) × (told ≡ None)
FitsEnd plan x due told (Some end) (Told verdict) = (due ≡ true) × IsVerdictOn plan x told end verdict
FitsEnd plan x due told (Some end) (Yielded seen) = (due ≡ true) × IfSome told (λ decision. decision ≡ seen)
FitsEnd plan x due told (Some end) slip = ⊥

-- the attempt that is published before the other, by what became of the remote one's pass: where that won it is the remote one
abbrev pub first_by : Slip → Attempt
first_by (Told Won) = Remote
first_by (Told Late) = Local
first_by (Told Noted) = Local
first_by Unused = Local
first_by Refused = Local
first_by Live = Local
first_by (Stopped seen) = Local
first_by (Yielded seen) = Local

-- the offer of this pass won the race
abbrev pub is_told_won : Slip → Bool
is_told_won (Told Won) = true
is_told_won (Told Late) = false
is_told_won (Told Noted) = false
is_told_won Unused = false
is_told_won Refused = false
is_told_won Live = false
is_told_won (Stopped seen) = false
is_told_won (Yielded seen) = false

-- the right to cancel won the race
abbrev pub is_cancelled : Slip → Bool
is_cancelled cancel = is_told_won cancel

-- The attempts of a plan had a race of their own: this is what its passes were told, and each of an attempt fits its end.
pub record HaveRaced (plan : Plan) (told_local : Option Decision) (local : Option (End Outcome Cause)) (told_remote : Option Decision)
    (remote : Option (End Outcome RemoteCause)) (passes : Passes) : Type 0 where
  pub told : AreTold plan (slips_of passes.local passes.remote passes.cancel)
  pub fits_local : FitsEnd plan Local (is_due_here plan passes.remote) told_local local passes.local
  pub fits_remote : FitsEnd plan Remote (has_remote plan) told_remote remote passes.remote
