-- An offer keeps a race sound.
use Rattle.std.proofs.Common.{◌≡◌, Bool, true, false, refl, ap, sym, subst, true≢false, ◌∙◌}
use Rattle.std.specs.Prelude.{◌≢◌, ◌||◌, not, if◌then◌else◌}
use Rattle.std.proofs.lemmas.Bool.{and_from, and_parts, or_right}
use Rattle.rx_world.specs.declared.attempts.Attempt.{Attempt}
use Rattle.rx_world.specs.declared.attempts.Attempt.TheVariants.{Local, Remote}
use Rattle.rx_world.specs.declared.decisions.Decision.{Decision}
use Rattle.rx_world.specs.declared.decisions.Decision.TheVariants.{By, Cancelled, Nothing, Undecided}
use Rattle.rx_world.specs.Decisions.{IsSettled}
use Rattle.rx_race.specs.declared.events.Event.TheVariants.{Offer}
use Rattle.rx_race.specs.declared.events.Verdict.{Verdict}
use Rattle.rx_race.specs.declared.events.Verdict.TheVariants.{Late, Noted, Won}
use Rattle.rx_race.specs.declared.standing.Phase.{Phase}
use Rattle.rx_race.specs.declared.standing.Phase.TheVariants.{Idle, Offered, Running}
use Rattle.rx_race.specs.declared.standing.Standing.{Standing}
use Rattle.rx_race.specs.Publishing.{offer_verdict}
use Rattle.rx_race.specs.Sound.{Sound}
use Rattle.rx_race.specs.Standings.{after, has_no_attempt_left, in_plan, is_offered, phase_of, with_phase}

running-started : (p : Phase) → p ≡ Running → p ≢ Idle
running-started p run idle = cc

pub settled-unless : (d : Decision) → d ≢ Undecided → d ≢ Nothing → IsSettled d
settled-unless Undecided made some = absurd (made refl)
settled-unless (By x) made some = tt
settled-unless Cancelled made some = tt
settled-unless Nothing made some = absurd (some refl)

-- while an attempt runs, a decision is one for an attempt or a cancel
settled : (s : Standing) (x : Attempt) → Sound s → phase_of x s ≡ Running → s.decision ≢ Undecided
    → IsSettled s.decision
settled s x h run made =
    settled-unless s.decision made
    (λ d. let was = h.nothing d x (h.planned x (running-started (phase_of x s) run)) in absurd (cc))

sound-late : (s : Standing) (x : Attempt) → Sound s → phase_of x s ≡ Running
    → s.decision ≢ Undecided → Sound (after s (Offer x Late))
sound-late s Local h run made = record {
  planned = elim [
    | Local ↦ λ started. h.planned Local (running-started s.local run)
    | Remote ↦ h.planned Remote
  ];
  falls_back = λ p started. h.falls_back p (running-started s.local run);
  undecided = λ d. absurd (made d);
  by = elim [ Local ↦ λ d. let was = h.by Local d in cc | Remote ↦ h.by Remote ];
  only = elim [ Local ↦ λ won. cc | Remote ↦ h.only Remote ];
  nothing = λ d. elim [
    | Local ↦ λ p. let was = h.nothing d Local p in cc
    | Remote ↦ h.nothing d Remote
  ];
  over = λ all. let was = all Local (h.planned Local (running-started s.local run)) in cc;
  late = elim [ Local ↦ λ e. settled s Local h run made | Remote ↦ h.late Remote ];
}
sound-late s Remote h run made = record {
  planned = elim [
    | Local ↦ h.planned Local
    | Remote ↦ λ started. h.planned Remote (running-started s.remote run)
  ];
  falls_back = λ p started. let was = h.falls_back p started in cc;
  undecided = λ d. absurd (made d);
  by = elim [ Local ↦ h.by Local | Remote ↦ λ d. let was = h.by Remote d in cc ];
  only = elim [ Local ↦ h.only Local | Remote ↦ λ won. cc ];
  nothing = λ d. elim [
    | Local ↦ h.nothing d Local
    | Remote ↦ λ p. let was = h.nothing d Remote p in cc
  ];
  over = λ all. let was = all Remote (h.planned Remote (running-started s.remote run)) in cc;
  late = elim [ Local ↦ h.late Local | Remote ↦ λ e. settled s Remote h run made ];
}

sound-won : (s : Standing) (x : Attempt) → Sound s → phase_of x s ≡ Running → s.decision ≡ Undecided
    → Sound (after s (Offer x Won))
sound-won s Local h run free = record {
  planned = elim [
    | Local ↦ λ started. h.planned Local (running-started s.local run)
    | Remote ↦ h.planned Remote
  ];
  falls_back = λ p started. h.falls_back p (running-started s.local run);
  undecided = λ d. cc;
  by = elim [ Local ↦ λ d. refl | Remote ↦ λ d. cc ];
  only = elim [ Local ↦ λ won. refl | Remote ↦ λ won. let was = h.only Remote won in cc ];
  nothing = λ d. cc;
  over = λ all. let was = all Local (h.planned Local (running-started s.local run)) in cc;
  late = λ x e. tt;
}
sound-won s Remote h run free = record {
  planned = elim [
    | Local ↦ h.planned Local
    | Remote ↦ λ started. h.planned Remote (running-started s.remote run)
  ];
  falls_back = λ p started. let was = h.falls_back p started in cc;
  undecided = λ d. cc;
  by = elim [ Local ↦ λ d. cc | Remote ↦ λ d. refl ];
  only = elim [ Local ↦ λ won. let was = h.only Local won in cc | Remote ↦ λ won. refl ];
  nothing = λ d. cc;
  over = λ all. let was = all Remote (h.planned Remote (running-started s.remote run)) in cc;
  late = λ x e. tt;
}

-- an attempt that offered while nothing is decided was noted
offered-noted : (p : Phase) → is_offered p ≡ true → ((v : Verdict) → p ≡ Offered v → v ≡ Noted)
    → p ≡ Offered Noted
offered-noted Idle e noted = cc
offered-noted Running e noted = cc
offered-noted (Offered v) e noted = ap Offered (noted v refl)

-- of an attempt of the plan
pub has-offered : (planned offered : Bool) → (not planned || offered) ≡ true → planned ≡ true
    → offered ≡ true
has-offered true offered e p = e
has-offered false offered e p = cc

pub offered-if : (planned offered : Bool) → (planned ≡ true → offered ≡ true)
    → (not planned || offered) ≡ true
offered-if true offered is = is refl
offered-if false offered is = refl

-- the offer that was noted left another attempt, or none
sound-noted-local : (s : Standing) (over : Bool)
    → has_no_attempt_left (with_phase Local (Offered Noted) s) ≡ over → Sound s → s.local ≡ Running
    → s.decision ≡ Undecided
    → Sound (record s { local = Offered Noted; decision = if over then Nothing else s.decision })
sound-noted-local s true over h run free = record {
  planned = elim [
    | Local ↦ λ started. h.planned Local (running-started s.local run)
    | Remote ↦ h.planned Remote
  ];
  falls_back = λ p started. h.falls_back p (running-started s.local run);
  undecided = λ d. cc;
  by = λ x d. cc;
  only = elim [ Local ↦ λ won. cc | Remote ↦ λ won. let was = h.only Remote won in cc ];
  nothing = λ d. elim [
    | Local ↦ λ p. refl
    | Remote ↦ λ p.
        let left = (and_parts (not (in_plan s.plan Local) || true) _ over).1 in
        let offered = has-offered (in_plan s.plan Remote) (is_offered s.remote) left p in
        offered-noted s.remote offered (h.undecided free Remote)
  ];
  over = λ all. refl;
  late = elim [
    | Local ↦ λ e. cc
    | Remote ↦ λ e. absurd (subst IsSettled free (h.late Remote e))
  ];
}
sound-noted-local s false over h run free = record {
  planned = elim [
    | Local ↦ λ started. h.planned Local (running-started s.local run)
    | Remote ↦ h.planned Remote
  ];
  falls_back = λ p started. h.falls_back p (running-started s.local run);
  undecided = λ d. elim [ Local ↦ λ v e. cc | Remote ↦ h.undecided d Remote ];
  by = λ x d. cc;
  only = elim [ Local ↦ λ won. cc | Remote ↦ h.only Remote ];
  nothing = λ d. cc;
  over = λ all.
      let first = or_right (not (in_plan s.plan Local)) true refl in
      let second = offered-if (in_plan s.plan Remote) (is_offered s.remote) (λ p. ap is_offered (all Remote p)) in
      absurd (true≢false (sym (and_from _ _ first second) ∙ over));
  late = elim [ Local ↦ λ e. cc | Remote ↦ h.late Remote ];
}

sound-noted-remote : (s : Standing) (over : Bool)
    → has_no_attempt_left (with_phase Remote (Offered Noted) s) ≡ over → Sound s
    → s.remote ≡ Running → s.decision ≡ Undecided
    → Sound (record s { remote = Offered Noted; decision = if over then Nothing else s.decision })
sound-noted-remote s true over h run free = record {
  planned = elim [
    | Local ↦ h.planned Local
    | Remote ↦ λ started. h.planned Remote (running-started s.remote run)
  ];
  falls_back = λ p started. refl;
  undecided = λ d. cc;
  by = λ x d. cc;
  only = elim [ Local ↦ λ won. let was = h.only Local won in cc | Remote ↦ λ won. cc ];
  nothing = λ d. elim [
    | Local ↦ λ p.
        let left = (and_parts _ (not (in_plan s.plan Remote) || true) over).0 in
        let offered = has-offered (in_plan s.plan Local) (is_offered s.local) left p in
        offered-noted s.local offered (h.undecided free Local)
    | Remote ↦ λ p. refl
  ];
  over = λ all. refl;
  late = elim [
    | Local ↦ λ e. absurd (subst IsSettled free (h.late Local e))
    | Remote ↦ λ e. cc
  ];
}
sound-noted-remote s false over h run free = record {
  planned = elim [
    | Local ↦ h.planned Local
    | Remote ↦ λ started. h.planned Remote (running-started s.remote run)
  ];
  falls_back = λ p started. refl;
  undecided = λ d. elim [ Local ↦ h.undecided d Local | Remote ↦ λ v e. cc ];
  by = λ x d. cc;
  only = elim [ Local ↦ h.only Local | Remote ↦ λ won. cc ];
  nothing = λ d. cc;
  over = λ all.
      let first = offered-if (in_plan s.plan Local) (is_offered s.local) (λ p. ap is_offered (all Local p)) in
      let second = or_right (not (in_plan s.plan Remote)) true refl in
      absurd (true≢false (sym (and_from _ _ first second) ∙ over));
  late = elim [ Local ↦ h.late Local | Remote ↦ λ e. cc ];
}

sound-noted : (s : Standing) (x : Attempt) → Sound s → phase_of x s ≡ Running
    → s.decision ≡ Undecided → Sound (after s (Offer x Noted))
sound-noted s Local h run free = sound-noted-local s _ refl h run free
sound-noted s Remote h run free = sound-noted-remote s _ refl h run free

pub sound-offer : (s : Standing) (x : Attempt) (d : Decision) (may : Bool) → s.decision ≡ d → Sound s
    → phase_of x s ≡ Running → Sound (after s (Offer x (offer_verdict d may)))
sound-offer s x Undecided true d h run = sound-won s x h run d
sound-offer s x Undecided false d h run = sound-noted s x h run d
sound-offer s x (By y) may d h run = sound-late s x h run (λ free. cc)
sound-offer s x Cancelled may d h run = sound-late s x h run (λ free. cc)
sound-offer s x Nothing may d h run = sound-late s x h run (λ free. cc)
