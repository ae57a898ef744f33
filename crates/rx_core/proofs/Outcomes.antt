-- The outcome that won is one that an attempt ended with. So it is proper, and in an honest run it
-- is clean.
use Rattle.std.proofs.Common.{◌≡◌, Option, None, Some, refl, ap, subst, inl, inr}
use Rattle.std.specs.Prelude.{◌⊎◌, IfSome}
use Rattle.rx_core.specs.Actions.{Action, winner_of, won}
use Rattle.rx_core.specs.Attempts.{Ended, Finished, Idle, MayEnd, Offered, Progress, Running, end_in, finished_by, finished_in, local_stop, remote_stop}
use Rattle.rx_core.specs.Facts.{Facts, IsAttempt}
use Rattle.rx_core.specs.Honest.{AllClean, IsCleanEnd, IsHonest}
use Rattle.rx_core.specs.Remote.{AreHeard, AreLawful, Job, Rules}
use Rattle.rx_core.proofs.Cases.{none-some, some-is}
use Rattle.rx_world.specs.declared.attempts.Attempt.{Attempt}
use Rattle.rx_world.specs.declared.attempts.Attempt.TheVariants.{Local, Remote}
use Rattle.rx_world.specs.declared.attempts.End.{End}
use Rattle.rx_world.specs.declared.attempts.End.TheVariants.{Done, Failed}
use Rattle.rx_world.specs.declared.attempts.Plan.{Plan}
use Rattle.rx_world.specs.declared.commands.Command.{Command}
use Rattle.rx_world.specs.declared.decisions.Decision.{Decision}
use Rattle.rx_world.specs.declared.decisions.Decision.TheVariants.{By, Cancelled, Nothing, Undecided}
use Rattle.rx_world.specs.declared.outcomes.Outcome.{Outcome}
use Rattle.rx_world.specs.declared.remote_causes.RemoteCause.{RemoteCause}
use Rattle.rx_world.specs.declared.trees.Tree.{Tree}
use Rattle.rx_world.specs.Outcomes.{IsClean, IsProper}

-- ---- an end

done-by : {C : Type 0} (end : End Outcome C) (f : Finished) → finished_by end ≡ Some f
    → end ≡ Done f.outcome f.origin
done-by (Done outcome origin) f e =
    let same = some-is e in ap (λ (g : Finished). Done g.outcome g.origin) same
done-by (Failed cause) f e = none-some e

pub done-in : {C : Type 0} (p : Progress C) (f : Finished) → finished_in p ≡ Some f
    → end_in p ≡ Some (Done f.outcome f.origin)
done-in Idle f e = none-some e
done-in Running f e = none-some e
done-in (Ended end) f e = none-some e
done-in (Offered end verdict) f e = ap Some (done-by end f e)

may-end : {C : Type 0} (stop : C → Option Decision) (plan : Plan) (x : Attempt) (command : Command)
    (made : Decision) (p : Progress C) (end : End Outcome C)
    → IsAttempt stop plan x command made p → end_in p ≡ Some end → MayEnd stop command made end
may-end stop plan x command made Idle end h e = none-some e
may-end stop plan x command made Running end h e = none-some e
may-end stop plan x command made (Ended end') end h e =
    subst (MayEnd stop command made) (some-is e) h
may-end stop plan x command made (Offered end' verdict) end h e =
    subst (MayEnd stop command made) (some-is e) h.0

-- ---- the outcome that won

pub winner-of-either : (d : Decision) (local remote : Option Finished) (f : Finished)
    → winner_of d local remote ≡ Some f → (local ≡ Some f) ⊎ (remote ≡ Some f)
winner-of-either Undecided local remote f e = none-some e
winner-of-either (By Local) local remote f e = inl e
winner-of-either (By Remote) local remote f e = inr e
winner-of-either Cancelled local remote f e = none-some e
winner-of-either Nothing local remote f e = none-some e

proper-either : {H : Type 0} (rules : Rules H) (a : Action H) (f : Finished) → Facts rules a
    → (finished_in a.local ≡ Some f) ⊎ (finished_in a.remote ≡ Some f)
    → IsProper a.job.command f.outcome
proper-either rules a f h (inl e) =
    may-end local_stop a.plan Local a.job.command a.decision a.local _ h.local (done-in a.local f e)
proper-either rules a f h (inr e) =
    may-end remote_stop a.plan Remote a.job.command a.decision a.remote _ h.remote
    (done-in a.remote f e)

pub won-proper : {H : Type 0} (rules : Rules H) (a : Action H) (f : Finished) → Facts rules a
    → won a ≡ Some f → IsProper a.job.command f.outcome
won-proper rules a f h e = proper-either rules a f h
    (winner-of-either a.decision (finished_in a.local) (finished_in a.remote) f e)

-- ---- in an honest run

clean-end : {C : Type 0} (tool : Command → Tree → Outcome) (job : Job) (p : Progress C)
    (f : Finished) → IfSome (end_in p) (IsCleanEnd tool job) → finished_in p ≡ Some f
    → IsClean tool job.command job.tree f.outcome
clean-end tool job p f h e = subst (λ m. IfSome m (IsCleanEnd tool job)) (done-in p f e) h

clean-either : {H : Type 0} (tool : Command → Tree → Outcome) (a : Action H) (f : Finished)
    → IfSome (end_in a.local) (IsCleanEnd tool a.job)
    → IfSome (end_in a.remote) (IsCleanEnd tool a.job)
    → (finished_in a.local ≡ Some f) ⊎ (finished_in a.remote ≡ Some f)
    → IsClean tool a.job.command a.job.tree f.outcome
clean-either tool a f local remote (inl e) = clean-end tool a.job a.local f local e
clean-either tool a f local remote (inr e) = clean-end tool a.job a.remote f remote e

clean-winner : {H : Type 0} (tool : Command → Tree → Outcome) (a : Action H) (m : Option Finished)
    → won a ≡ m → IfSome (end_in a.local) (IsCleanEnd tool a.job)
    → IfSome (end_in a.remote) (IsCleanEnd tool a.job)
    → IfSome m (λ f. IsClean tool a.job.command a.job.tree f.outcome)
clean-winner tool a None e local remote = tt
clean-winner tool a (Some f) e local remote = clean-either tool a f local remote
    (winner-of-either a.decision (finished_in a.local) (finished_in a.remote) f e)

module _ {H : Type 0} (tool : Command → Tree → Outcome) (rules : Rules H)
    (lawful : AreLawful tool rules) where
  clean-heard : (a : Action H) (m : Option (End Outcome RemoteCause))
      → IfSome m (λ end. rules.end_of a.job a.heard ≡ Some end) → AreHeard rules a.job a.heard
      → rules.IsHonest a.job a.heard → IfSome m (IsCleanEnd tool a.job)
  clean-heard a None e heard honest = tt
  clean-heard a (Some (Done outcome origin)) e heard honest =
      lawful.clean a.job a.heard outcome origin heard honest e
  clean-heard a (Some (Failed cause)) e heard honest = tt

  pub all-clean : (a : Action H) → Facts rules a → IsHonest tool rules a → AllClean tool a
  all-clean a h honest =
      let remote = clean-heard a (end_in a.remote) h.heard_end h.heard honest.heard in record {
        local = honest.local;
        remote = remote;
        winner = clean-winner tool a (won a) refl honest.local remote;
      }
