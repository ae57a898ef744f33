-- What each attempt of a race hands back.
use Rattle.std.proofs.Common.{◌≡◌, ◌∙◌, Bool, false, true, ap, refl, subst, sym}
use Rattle.std.specs.Prelude.{IfSome, None, Option, Some}
use Rattle.rx_core.proofs.Cases.{none-some, some-is}
use Rattle.rx_exec_messages.specs.declared.callers.Caller as callers
use Rattle.rx_race.specs.declared.events.Verdict.{Verdict}
use Rattle.rx_race.specs.declared.events.Verdict.TheVariants.{Noted, Won}
use Rattle.rx_race.specs.declared.slips.Seat.TheVariants.{Of}
use Rattle.rx_race.specs.declared.slips.Slip.{Slip}
use Rattle.rx_race.specs.declared.slips.Slip.TheVariants.{Live, Refused, Stopped, Told, Unused, Yielded}
use Rattle.rx_race.specs.Looking.{Looked}
use Rattle.rx_race.specs.Publishing.{may_publish}
use Rattle.rx_race.specs.Slips.{Ticket, seen_in, told_in}
use Rattle.rx_scan.specs.declared.gathering.Gathered.{Gathered}
use Rattle.rx_world.specs.declared.attempts.Attempt.{Attempt}
use Rattle.rx_world.specs.declared.attempts.Attempt.TheVariants.{Local, Remote}
use Rattle.rx_world.specs.declared.attempts.Cause.{Cause}
use Rattle.rx_world.specs.declared.attempts.End.{End}
use Rattle.rx_world.specs.declared.attempts.Plan.{Plan}
use Rattle.rx_world.specs.declared.benches.Bench as benches
use Rattle.rx_world.specs.declared.benches.BenchMaker as makers
use Rattle.rx_world.specs.declared.decisions.Decision.{Decision}
use Rattle.rx_world.specs.declared.outcomes.Outcome.{Outcome}
use Rattle.rx_world.specs.declared.remote_causes.RemoteCause.{RemoteCause}
use Rattle.rx_world.specs.declared.sources.Sources as sources
use Rattle.rx_world.specs.declared.world.World as world
use Rattle.rx_engine.specs.Attempts.{HasRunHere}
use Rattle.rx_engine.specs.RacedAttempts.{HasRacedHere, HasRacedThere, RanHere, RanThere}
use Rattle.rx_engine.specs.Racing.{FitsEnd, unstarted}
use Rattle.rx_engine.specs.RemoteAttempts.{EndsThere}

-- ---- offers

unseen : (told : Option Decision) → IfSome told (λ decision. None ≡ Some decision) → told ≡ None
unseen None h = refl
unseen (Some decision) h = none-some h

same-seen : (told : Option Decision) (seen : Decision) → IfSome told (λ decision. Some seen ≡ Some decision) → IfSome told (λ decision. decision ≡ seen)
same-seen None seen h = tt
same-seen (Some decision) seen h = sym (some-is h)

-- what an offer was told, and what its pass says of a decision, fits the end
told-fits : {C : Type 0} (plan : Plan) (x : Attempt) (told : Option Decision) (end : End Outcome C) (verdict : Verdict) (slip : Slip) → told_in slip ≡ Some verdict
    → (verdict ≡ Won → may_publish plan x end ≡ true) → (verdict ≡ Noted → may_publish plan x end ≡ false)
    → IfSome told (λ decision. seen_in slip ≡ Some decision) → FitsEnd plan x true told (Some end) slip
told-fits plan x told end verdict (Told given) is won noted seen =
    let same : given ≡ verdict = some-is is in
    (refl, record { won = λ e. won (sym same ∙ e); noted = λ e. noted (sym same ∙ e); untold = unseen told seen })
told-fits plan x told end verdict (Yielded decision) is won noted seen = (refl, same-seen told decision seen)
told-fits plan x told end verdict Unused is won noted seen = none-some is
told-fits plan x told end verdict Refused is won noted seen = none-some is
told-fits plan x told end verdict Live is won noted seen = none-some is
told-fits plan x told end verdict (Stopped decision) is won noted seen = none-some is

pub offer-fits : {C : Type 0} (plan : Plan) (x : Attempt) (told : Option Decision) (end given : End Outcome C) (verdict : Verdict) (slip : Slip) → end ≡ given
    → told_in slip ≡ Some verdict → (verdict ≡ Won → may_publish plan x given ≡ true) → (verdict ≡ Noted → may_publish plan x given ≡ false)
    → IfSome told (λ decision. seen_in slip ≡ Some decision) → FitsEnd plan x true told (Some end) slip
offer-fits plan x told end given verdict slip same is won noted seen =
    subst (λ e. FitsEnd plan x true told (Some e) slip) (sym same) (told-fits plan x told given verdict slip is won noted seen)

-- ---- what is handed back

-- an end that was offered fits the pass of its attempt
fits : {C : Type 0} (plan : Plan) (x : Attempt) (looked : Looked) (end : End Outcome C) (ended : Option (End Outcome C)) (ticket : Ticket) → looked.attempt ≡ x → ended ≡ Some end
    → FitsEnd plan looked.attempt true looked.seen (Some end) ticket.slip → FitsEnd plan x true looked.seen ended ticket.slip
fits plan x looked end ended ticket e is h =
    subst (λ y. FitsEnd plan x true looked.seen y ticket.slip) (sym is) (subst (λ y. FitsEnd plan y true looked.seen (Some end) ticket.slip) e h)

module _ {M B T W : Type 0} (w : world.Ghosts W) (m : makers.Ghosts M W B) (b : benches.Ghosts B W) (s : sources.Ghosts T W) (plan : Plan) (gathered : Gathered) where
  -- the local attempt was made, and offered its end
  pub here-offered : (benches_old benches_new : M) (old new : T) (looked : Looked) (end : End Outcome Cause) (ended : Option (End Outcome Cause)) (ticket : Ticket)
      → looked.attempt ≡ Local → HasRunHere w m b s gathered looked.seen benches_old benches_new old new end
      → ended ≡ Some end → ticket.seat ≡ Of looked.attempt → FitsEnd plan looked.attempt true looked.seen (Some end) ticket.slip
      → HasRacedHere w m b s plan true gathered benches_old benches_new old new ended ticket
  here-offered benches_old benches_new old new looked end ended ticket e ran is seat fit = record {
    told = looked.seen;
    seat = seat ∙ ap Of e;
    fits = fits plan Local looked end ended ticket e is fit;
    ran = subst (RanHere w m b s gathered looked.seen benches_old benches_new old new) (sym is) ran;
  }

  -- or it didn't start
  pub here-unstarted : (due : Bool) (made : M) (tree : T) (ticket : Ticket) → ticket ≡ record { seat = Of Local; slip = unstarted due }
      → HasRacedHere w m b s plan due gathered made made tree tree None ticket
  here-unstarted due made tree ticket e = record {
    told = None;
    seat = ap (λ (x : Ticket). x.seat) e;
    fits = (ap (λ (x : Ticket). x.slip) e, refl);
    ran = (refl, refl);
  }

module _ {C T W : Type 0} (w : world.Ghosts W) (c : callers.Ghosts C W) (s : sources.Ghosts T W) (plan : Plan) (gathered : Gathered) (accepts : Bool) where
  -- the remote attempt was made, and offered its end
  pub there-offered : (farm_old farm_new : C) (old new : T) (looked : Looked) (end : End Outcome RemoteCause) (ended : Option (End Outcome RemoteCause)) (ticket : Ticket)
      → looked.attempt ≡ Remote → EndsThere w c s gathered accepts looked.seen farm_old farm_new old new end
      → ended ≡ Some end → ticket.seat ≡ Of looked.attempt → FitsEnd plan looked.attempt true looked.seen (Some end) ticket.slip
      → HasRacedThere w c s plan true gathered accepts farm_old farm_new old new ended ticket
  there-offered farm_old farm_new old new looked end ended ticket e ran is seat fit = record {
    told = looked.seen;
    seat = seat ∙ ap Of e;
    fits = fits plan Remote looked end ended ticket e is fit;
    ran = subst (RanThere w c s gathered accepts looked.seen farm_old farm_new old new) (sym is) ran;
  }

  -- or it didn't start
  pub there-unstarted : (due : Bool) (farm : C) (tree : T) (ticket : Ticket) → ticket ≡ record { seat = Of Remote; slip = unstarted due }
      → HasRacedThere w c s plan due gathered accepts farm farm tree tree None ticket
  there-unstarted due farm tree ticket e = record {
    told = None;
    seat = ap (λ (x : Ticket). x.seat) e;
    fits = (ap (λ (x : Ticket). x.slip) e, refl);
    ran = (refl, refl);
  }
