-- What the three passes of a race were told.
use Rattle.std.proofs.Common.{◌≡◌, true, ℕ, Some, inl, inr, refl, ap, sym, subst, ◌∙◌}
use Rattle.std.specs.Prelude.{◌≢◌, ◌⊎◌}
use Rattle.rx_world.specs.declared.attempts.Attempt.{Attempt}
use Rattle.rx_world.specs.declared.attempts.Plan.{Plan}
use Rattle.rx_world.specs.declared.decisions.Decision.{Decision}
use Rattle.rx_world.specs.declared.decisions.Decision.TheVariants.{By, Cancelled, Nothing, Undecided}
use Rattle.rx_world.specs.Decisions.{IsSettled}
use Rattle.rx_race.specs.declared.events.Verdict.{Verdict}
use Rattle.rx_race.specs.declared.events.Verdict.TheVariants.{Late, Noted, Won}
use Rattle.rx_race.specs.declared.slips.Seat.{Seat}
use Rattle.rx_race.specs.declared.slips.Seat.TheVariants.{Canceller, Of}
use Rattle.rx_race.specs.declared.slips.Slip.{Slip}
use Rattle.rx_race.specs.declared.slips.Slip.TheVariants.{Live, Refused, Stopped, Told, Unused, Yielded}
use Rattle.rx_race.specs.declared.standing.Phase.{Phase}
use Rattle.rx_race.specs.declared.standing.Phase.TheVariants.{Idle, Offered, Running}
use Rattle.rx_race.specs.Locked.{AllNoted, AreTold, Fits, FitsCancel, IsLocked, IsLook, IsSeen, SomeoneWon, decision_for}
use Rattle.rx_race.specs.Races.{Course, cancels_of, standing_of}
use Rattle.rx_race.specs.Slips.{Slips, seen_in, slip_at, told_in}
use Rattle.rx_race.specs.Standings.{in_plan, phase_of}
use Rattle.rx_race.proofs.LockLemmas.{at}
use Rattle.rx_race.proofs.LookLemmas.{fits-at}
use Rattle.rx_race.proofs.StepLemmas.{plan-standing}

-- ---- slips and phases

told-phase : (d : Decision) (p : Phase) (v : Verdict) → Fits d p (Told v) → p ≡ Offered v
told-phase d Idle v h = absurd h
told-phase d Running v h = absurd h
told-phase d (Offered w) v h = ap Offered (sym h)

offered-slip : (d : Decision) (v : Verdict) (slip : Slip) → v ≢ Late → Fits d (Offered v) slip
    → slip ≡ Told v
offered-slip d v Unused timely h = absurd h
offered-slip d v Refused timely h = absurd h
offered-slip d v Live timely h = absurd h
offered-slip d v (Stopped s) timely h = absurd h
offered-slip d v (Yielded s) timely h = absurd (timely h.0)
offered-slip d v (Told w) timely h = ap Told h

late-phase : (d : Decision) (p : Phase) (slip : Slip) → told_in slip ≡ Some Late → Fits d p slip
    → p ≡ Offered Late
late-phase d p Unused late h = cc
late-phase d p Refused late h = cc
late-phase d p Live late h = cc
late-phase d p (Stopped s) late h = cc
late-phase d Idle (Yielded s) late h = absurd h
late-phase d Running (Yielded s) late h = absurd h
late-phase d (Offered v) (Yielded s) late h = ap Offered h.0
late-phase d p (Told v) late h =
    let same : v ≡ Late = cc in told-phase d p v h ∙ ap Offered same

-- what an attempt saw is the race's decision
seen-is : (d : Decision) (p : Phase) (slip : Slip) (seen : Decision) → seen_in slip ≡ Some seen
    → Fits d p slip → IsSeen d seen
seen-is d p Unused seen e h = cc
seen-is d p Refused seen e h = cc
seen-is d p Live seen e h = cc
seen-is d Idle (Stopped s) seen e h = absurd h
seen-is d Running (Stopped s) seen e h = let same : s ≡ seen = cc in rw same at h
seen-is d (Offered v) (Stopped s) seen e h = absurd h
seen-is d Idle (Yielded s) seen e h = absurd h
seen-is d Running (Yielded s) seen e h = absurd h
seen-is d (Offered v) (Yielded s) seen e h = let same : s ≡ seen = cc in rw same at h.1
seen-is d p (Told v) seen e h = cc

look-settled : (d : Decision) (p : Phase) (slip : Slip) → IsLook slip → Fits d p slip → IsSettled d
look-settled d p Unused look h = absurd look
look-settled d Idle Refused look h = h
look-settled d Running Refused look h = absurd h
look-settled d (Offered v) Refused look h = absurd h
look-settled d p Live look h = absurd look
look-settled d p (Stopped s) look h = (seen-is d p (Stopped s) s refl h).1
look-settled d p (Yielded s) look h = (seen-is d p (Yielded s) s refl h).1
look-settled d p (Told v) look h = absurd look

cancelled-slip : (n : ℕ) (slip : Slip) → FitsCancel Cancelled n slip → slip ≡ Told Won
cancelled-slip n Unused h = absurd (h.1 refl)
cancelled-slip n Refused h = absurd h
cancelled-slip n Live h = absurd h
cancelled-slip n (Stopped s) h = absurd h
cancelled-slip n (Yielded s) h = absurd h
cancelled-slip n (Told Won) h = refl
cancelled-slip n (Told Late) h = absurd (h.1 refl)
cancelled-slip n (Told Noted) h = absurd h

-- ---- seats

one-seat : (a b : Seat) → decision_for a ≡ decision_for b → a ≡ b
one-seat (Of x) (Of y) e = let same : By x ≡ By y = e in let is : x ≡ y = cc in ap Of is
one-seat (Of x) Canceller e = cc
one-seat Canceller (Of y) e = cc
one-seat Canceller Canceller e = refl

nobody : (seat : Seat) → decision_for seat ≢ Nothing
nobody (Of x) = λ e. cc
nobody Canceller = λ e. cc

module _ (plan : Plan) (race : Course) (slips : Slips) (was : IsLocked plan (at race slips)) where
  -- what was told to a pass is what its attempt offered for
  phase-told : (x : Attempt) (v : Verdict) → slip_at (Of x) slips ≡ Told v
      → phase_of x (standing_of race) ≡ Offered v
  phase-told x v e =
      let s = standing_of race in
      let found = fits-at plan race slips x was in
      let fits = subst (λ slip. Fits s.decision (phase_of x s) slip) e found in
      told-phase s.decision _ v fits

  slip-told : (x : Attempt) (v : Verdict) → v ≢ Late → phase_of x (standing_of race) ≡ Offered v
      → slip_at (Of x) slips ≡ Told v
  slip-told x v timely e =
      let s = standing_of race in
      let slip = slip_at (Of x) slips in
      let fits = subst (λ p. Fits s.decision p slip) e (fits-at plan race slips x was) in
      offered-slip s.decision v slip timely fits

  won-decides : (seat : Seat) → slip_at seat slips ≡ Told Won
      → (standing_of race).decision ≡ decision_for seat
  won-decides (Of x) e = was.sound.only x (phase-told x Won e)
  won-decides Canceller e =
      subst (λ slip. FitsCancel (standing_of race).decision (cancels_of race) slip) e was.cancel

  -- a race that is decided for an attempt or cancelled has a pass that won
  someone : (d : Decision) → (standing_of race).decision ≡ d → IsSettled d → SomeoneWon slips
  someone Undecided e settled = absurd settled
  someone (By x) e settled = (Of x, slip-told x Won (λ l. cc) (was.sound.by x e))
  someone Cancelled e settled =
      let fits = subst (λ d. FitsCancel d (cancels_of race) slips.cancel) e was.cancel in
      (Canceller, cancelled-slip (cancels_of race) slips.cancel fits)
  someone Nothing e settled = absurd settled

  -- a cancel that was late
  late-cancelled : (d : Decision) → (standing_of race).decision ≡ d → d ≢ Undecided
      → SomeoneWon slips ⊎ AllNoted plan slips
  late-cancelled Undecided e made = absurd (made refl)
  late-cancelled (By x) e made = inl (someone (By x) e tt)
  late-cancelled Cancelled e made = inl (someone Cancelled e tt)
  late-cancelled Nothing e made =
      inr
      (λ x planned.
      let here : in_plan (standing_of race).plan x ≡ true =
      rw (plan-standing race ∙ was.plan_is) planned in
      slip-told x Noted (λ l. cc) (was.sound.nothing e x here))

  pub told : AreTold plan slips
  told =
      let s = standing_of race in record {
        one = λ a b won also.
            let first = won-decides a won in
            let second = won-decides b also in
            one-seat a b (sym first ∙ second);
        none = λ noted won.
            let over = was.sound.over (λ x planned.
            let here : in_plan plan x ≡ true = rw (← plan-standing race ∙ was.plan_is) planned in
            phase-told x Noted (noted x here)) in
            nobody won.0 (sym (won-decides won.0 won.1) ∙ over);
        late = λ x e.
            let fits = fits-at plan race slips x was in
            let offered = late-phase s.decision _ _ e fits in
            someone s.decision refl (was.sound.late x offered);
        look = λ x look.
            let fits = fits-at plan race slips x was in
            someone s.decision refl (look-settled s.decision _ _ look fits);
        seen = λ x seen e.
            let is = seen-is s.decision _ _ seen e (fits-at plan race slips x was) in
            let won = someone s.decision refl is.1 in
            (won.0, won.1, is.0 ∙ won-decides won.0 won.1);
        late_cancel = λ e.
            let fits = subst (λ slip. FitsCancel s.decision (cancels_of race) slip) e was.cancel in
            late-cancelled s.decision refl fits.0;
      }
