-- A race in which nothing happened yet is sound, and a start and a cancel keep a race sound.
use Rattle.std.proofs.Common.{◌≡◌, true, refl, subst}
use Rattle.rx_world.specs.declared.attempts.Attempt.{Attempt}
use Rattle.rx_world.specs.declared.attempts.Attempt.TheVariants.{Local, Remote}
use Rattle.rx_world.specs.declared.attempts.Plan.{Plan}
use Rattle.rx_world.specs.declared.attempts.Plan.TheVariants.{Both, Fallback, LocalOnly, RemoteOnly}
use Rattle.rx_world.specs.declared.decisions.Decision.{Decision}
use Rattle.rx_world.specs.declared.decisions.Decision.TheVariants.{By, Cancelled, Nothing, Undecided}
use Rattle.rx_race.specs.declared.events.Event.TheVariants.{Cancel, Start}
use Rattle.rx_race.specs.declared.events.Verdict.TheVariants.{Late, Noted, Won}
use Rattle.rx_race.specs.declared.standing.Phase.{Phase}
use Rattle.rx_race.specs.declared.standing.Phase.TheVariants.{Idle, Offered, Running}
use Rattle.rx_race.specs.declared.standing.Standing.{Standing}
use Rattle.rx_race.specs.Publishing.{cancel_verdict}
use Rattle.rx_race.specs.Sound.{Sound}
use Rattle.rx_race.specs.Standings.{after, fresh, in_plan, is_noted, is_turn, may_start, phase_of}
use Rattle.rx_race.proofs.StepLemmas.{start-says}

-- some attempt is planned, and it is idle
over-fresh : (plan : Plan)
    → ((x : Attempt) → in_plan plan x ≡ true → phase_of x (fresh plan) ≡ Offered Noted)
    → Undecided ≡ Nothing
over-fresh LocalOnly all = let idle = all Local refl in cc
over-fresh RemoteOnly all = let idle = all Remote refl in cc
over-fresh Fallback all = let idle = all Local refl in cc
over-fresh Both all = let idle = all Local refl in cc

pub sound-fresh : (plan : Plan) → Sound (fresh plan)
sound-fresh plan = record {
  planned = elim [
    | Local ↦ λ started. absurd (started refl)
    | Remote ↦ λ started. absurd (started refl)
  ];
  falls_back = λ p started. absurd (started refl);
  undecided = λ d. elim [ Local ↦ λ v e. cc | Remote ↦ λ v e. cc ];
  by = λ x d. cc;
  only = elim [ Local ↦ λ e. cc | Remote ↦ λ e. cc ];
  nothing = λ d. cc;
  over = over-fresh plan;
  late = elim [ Local ↦ λ e. cc | Remote ↦ λ e. cc ];
}

noted-is : (p : Phase) → is_noted p ≡ true → p ≡ Offered Noted
noted-is Idle e = cc
noted-is Running e = cc
noted-is (Offered Won) e = cc
noted-is (Offered Late) e = cc
noted-is (Offered Noted) e = refl

-- ---- starts

pub sound-start : (s : Standing) (x : Attempt) → Sound s → may_start s x ≡ true
    → Sound (after s (Start x))
sound-start s Local h may = let start = start-says s Local may in record {
  planned = elim [ Local ↦ λ started. start.planned | Remote ↦ h.planned Remote ];
  falls_back = λ p started.
      noted-is s.remote (subst (λ plan. is_turn plan Local s.remote ≡ true) p start.turn);
  undecided = λ d. elim [ Local ↦ λ v e. cc | Remote ↦ h.undecided d Remote ];
  by = λ x d. let was = start.undecided in cc;
  only = elim [ Local ↦ λ e. cc | Remote ↦ h.only Remote ];
  nothing = λ d. let was = start.undecided in cc;
  over = λ all. let runs = all Local start.planned in cc;
  late = elim [ Local ↦ λ e. cc | Remote ↦ h.late Remote ];
}
sound-start s Remote h may = let start = start-says s Remote may in record {
  planned = elim [ Local ↦ h.planned Local | Remote ↦ λ started. start.planned ];
  falls_back = λ p started. let was = h.falls_back p started in let idle = start.idle in cc;
  undecided = λ d. elim [ Local ↦ h.undecided d Local | Remote ↦ λ v e. cc ];
  by = λ x d. let was = start.undecided in cc;
  only = elim [ Local ↦ h.only Local | Remote ↦ λ e. cc ];
  nothing = λ d. let was = start.undecided in cc;
  over = λ all. let runs = all Remote start.planned in cc;
  late = elim [ Local ↦ h.late Local | Remote ↦ λ e. cc ];
}

-- ---- cancels

pub sound-cancel : (s : Standing) → Sound s → (d : Decision) → s.decision ≡ d
    → Sound (after s (Cancel (cancel_verdict d)))
sound-cancel s h Undecided e = record {
  planned = elim [ Local ↦ h.planned Local | Remote ↦ h.planned Remote ];
  falls_back = h.falls_back;
  undecided = λ d. cc;
  by = λ x d. cc;
  only = elim [
    | Local ↦ λ won. let was = h.only Local won in cc
    | Remote ↦ λ won. let was = h.only Remote won in cc
  ];
  nothing = λ d. cc;
  over = λ all. let was = h.over (elim [ Local ↦ all Local | Remote ↦ all Remote ]) in cc;
  late = λ x e. tt;
}
sound-cancel s h (By x) e = h
sound-cancel s h Cancelled e = h
sound-cancel s h Nothing e = h
