-- What happens in an action's race keeps its facts: a start, an offer and a cancel.
use Rattle.std.proofs.Common.{◌≡◌, Bool, true, false, Some, refl, sym, subst}
use Rattle.std.specs.Prelude.{◌≢◌}
use Rattle.rx_core.specs.Actions.{Action, cancel, offer, standing_of, start}
use Rattle.rx_core.specs.Attempts.{Ended, Finished, HasVerdict, Idle, Offered, Progress, Running, finished_in, local_stop, phase_in, remote_stop, verdict_on}
use Rattle.rx_core.specs.Facts.{Facts}
use Rattle.rx_core.specs.Remote.{Rules}
use Rattle.rx_core.specs.Steps.{MayOffer}
use Rattle.rx_core.proofs.Cases.{none-some}
use Rattle.rx_core.proofs.Growing.{Grows, attempt-grows, end-grows, entry-grows, reply-grows}
use Rattle.rx_race.specs.declared.events.Event.TheVariants as events
use Rattle.rx_race.specs.declared.events.Verdict.{Verdict}
use Rattle.rx_race.specs.declared.standing.Phase.TheVariants as phases
use Rattle.rx_race.specs.Publishing.{cancel_verdict, may_publish, offer_verdict}
use Rattle.rx_race.specs.Races.{IsStep}
use Rattle.rx_race.specs.Standings.{may_start}
use Rattle.rx_race.proofs.SoundLemmas.{decision-after, sound-after}
use Rattle.rx_race.proofs.StepLemmas.{start-says}
use Rattle.rx_world.specs.declared.attempts.Attempt.{Attempt}
use Rattle.rx_world.specs.declared.attempts.Attempt.TheVariants.{Local, Remote}
use Rattle.rx_world.specs.declared.attempts.Cause.{Cause}
use Rattle.rx_world.specs.declared.attempts.End.{End}
use Rattle.rx_world.specs.declared.decisions.Decision.{Decision}
use Rattle.rx_world.specs.declared.decisions.Decision.TheVariants.{By, Cancelled, Nothing, Undecided}
use Rattle.rx_world.specs.declared.outcomes.Outcome.{Outcome}
use Rattle.rx_world.specs.declared.remote_causes.RemoteCause.{RemoteCause}

-- ---- starts

idle-unfinished : {C : Type 0} (p : Progress C) (f : Finished) → phase_in p ≡ phases.Idle
    → finished_in p ≡ Some f → ⊥
idle-unfinished Idle f idle e = none-some e
idle-unfinished Running f idle e = none-some e
idle-unfinished (Ended end) f idle e = none-some e
idle-unfinished (Offered end verdict) f idle e = cc

grows-start : {H : Type 0} (a : Action H) (x : Attempt) → may_start (standing_of a) x ≡ true
    → Grows a (start x a)
grows-start a Local may = record {
  decided = λ made. refl;
  local = λ f e. absurd (idle-unfinished a.local f (start-says (standing_of a) Local may).idle e);
  remote = λ f e. e;
  over = λ d. let was = (start-says (standing_of a) Local may).undecided in absurd (cc);
  session = refl;
  entry = refl;
  reply = refl;
}
grows-start a Remote may = record {
  decided = λ made. refl;
  local = λ f e. e;
  remote = λ f e.
      absurd (idle-unfinished a.remote f (start-says (standing_of a) Remote may).idle e);
  over = λ d. let was = (start-says (standing_of a) Remote may).undecided in absurd (cc);
  session = refl;
  entry = refl;
  reply = refl;
}

pub facts-start : {H : Type 0} (rules : Rules H) (a : Action H) (x : Attempt)
    → may_start (standing_of a) x ≡ true → Facts rules a → Facts rules (start x a)
facts-start rules a Local may h = record {
  race = sound-after (standing_of a) (events.Start Local) h.race may;
  local = tt;
  remote = h.remote;
  heard = h.heard;
  heard_end = h.heard_end;
  entry = entry-grows a (start Local a) (grows-start a Local may) h.entry;
  reply = reply-grows a (start Local a) (grows-start a Local may) h.reply;
}
facts-start rules a Remote may h = record {
  race = sound-after (standing_of a) (events.Start Remote) h.race may;
  local = h.local;
  remote = tt;
  heard = h.heard;
  heard_end = tt;
  entry = entry-grows a (start Remote a) (grows-start a Remote may) h.entry;
  reply = reply-grows a (start Remote a) (grows-start a Remote may) h.reply;
}

-- ---- offers

has-verdict : (made : Decision) (may : Bool) → HasVerdict may (offer_verdict made may)
has-verdict Undecided true = refl
has-verdict Undecided false = refl
has-verdict (By x) may = tt
has-verdict Cancelled may = tt
has-verdict Nothing may = tt

module _ {H : Type 0} (a : Action H) (end : End Outcome Cause) where
  abbrev local_ended : Action H
  local_ended = record a { local = Ended end }

  abbrev local_verdict : Verdict
  local_verdict = verdict_on a.plan Local a.decision end

  local-step : IsStep (standing_of local_ended) (events.Offer Local local_verdict)
  local-step = (refl, (may_publish a.plan Local end, refl))

  pub local-stays : a.decision ≢ Undecided → (offer Local local_ended).decision ≡ a.decision
  local-stays made =
      decision-after (standing_of local_ended) (events.Offer Local local_verdict) local-step made

  grows-local : Grows local_ended (offer Local local_ended)
  grows-local = record {
    decided = local-stays;
    local = λ f e. none-some e;
    remote = λ f e. e;
    over = λ d. (refl, refl);
    session = refl;
    entry = refl;
    reply = refl;
  }

  facts-local : (rules : Rules H) → Facts rules local_ended
      → Facts rules (offer Local local_ended)
  facts-local rules h = record {
    race = sound-after
        (standing_of local_ended) (events.Offer Local local_verdict) h.race local-step;
    local = (
      end-grows local_stop a.job.command a.decision _ end local-stays h.local,
      has-verdict a.decision (may_publish a.plan Local end),
    );
    remote = attempt-grows
        remote_stop a.plan Remote a.job.command a.decision _ a.remote local-stays h.remote;
    heard = h.heard;
    heard_end = h.heard_end;
    entry = entry-grows local_ended (offer Local local_ended) grows-local h.entry;
    reply = reply-grows local_ended (offer Local local_ended) grows-local h.reply;
  }

module _ {H : Type 0} (a : Action H) (end : End Outcome RemoteCause) where
  abbrev remote_ended : Action H
  remote_ended = record a { remote = Ended end }

  abbrev remote_verdict : Verdict
  remote_verdict = verdict_on a.plan Remote a.decision end

  remote-step : IsStep (standing_of remote_ended) (events.Offer Remote remote_verdict)
  remote-step = (refl, (may_publish a.plan Remote end, refl))

  pub remote-stays : a.decision ≢ Undecided → (offer Remote remote_ended).decision ≡ a.decision
  remote-stays made =
      decision-after (standing_of remote_ended) (events.Offer Remote remote_verdict) remote-step
      made

  grows-remote : Grows remote_ended (offer Remote remote_ended)
  grows-remote = record {
    decided = remote-stays;
    local = λ f e. e;
    remote = λ f e. none-some e;
    over = λ d. (refl, refl);
    session = refl;
    entry = refl;
    reply = refl;
  }

  facts-remote : (rules : Rules H) → Facts rules remote_ended
      → Facts rules (offer Remote remote_ended)
  facts-remote rules h = record {
    race = sound-after
        (standing_of remote_ended) (events.Offer Remote remote_verdict) h.race remote-step;
    local = attempt-grows
        local_stop a.plan Local a.job.command a.decision _ a.local remote-stays h.local;
    remote = (
      end-grows remote_stop a.job.command a.decision _ end remote-stays h.remote,
      has-verdict a.decision (may_publish a.plan Remote end),
    );
    heard = h.heard;
    heard_end = h.heard_end;
    entry = entry-grows remote_ended (offer Remote remote_ended) grows-remote h.entry;
    reply = reply-grows remote_ended (offer Remote remote_ended) grows-remote h.reply;
  }

pub facts-offer : {H : Type 0} (rules : Rules H) (a : Action H) (x : Attempt) → MayOffer x a
    → Facts rules a → Facts rules (offer x a)
facts-offer rules a Local may h =
    subst (λ p. Facts rules (offer Local (record a { local = p }))) (sym may.1)
    (facts-local a may.0 rules (subst (λ p. Facts rules (record a { local = p })) may.1 h))
facts-offer rules a Remote may h =
    subst (λ p. Facts rules (offer Remote (record a { remote = p }))) (sym may.1)
    (facts-remote a may.0 rules (subst (λ p. Facts rules (record a { remote = p })) may.1 h))

-- ---- cancels

pub cancel-stays : {H : Type 0} (a : Action H) → a.decision ≢ Undecided
    → (cancel a).decision ≡ a.decision
cancel-stays a made =
    decision-after (standing_of a) (events.Cancel (cancel_verdict a.decision)) refl made

grows-cancel : {H : Type 0} (a : Action H) → Grows a (cancel a)
grows-cancel a = record {
  decided = cancel-stays a;
  local = λ f e. e;
  remote = λ f e. e;
  over = λ d. (refl, refl);
  session = refl;
  entry = refl;
  reply = refl;
}

pub facts-cancel : {H : Type 0} (rules : Rules H) (a : Action H) → Facts rules a
    → Facts rules (cancel a)
facts-cancel rules a h = record {
  race = sound-after (standing_of a) (events.Cancel (cancel_verdict a.decision)) h.race refl;
  local = attempt-grows
      local_stop a.plan Local a.job.command a.decision _ a.local (cancel-stays a) h.local;
  remote = attempt-grows
      remote_stop a.plan Remote a.job.command a.decision _ a.remote (cancel-stays a) h.remote;
  heard = h.heard;
  heard_end = h.heard_end;
  entry = entry-grows a (cancel a) (grows-cancel a) h.entry;
  reply = reply-grows a (cancel a) (grows-cancel a) h.reply;
}
