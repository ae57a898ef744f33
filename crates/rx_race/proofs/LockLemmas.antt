-- What each call under the lock keeps.
use Rattle.std.proofs.Common.{◌≡◌, ℕ, Bool, true, false, [], Some, ap, arith, refl, sym, subst, ◌∙◌}
use Rattle.std.specs.Prelude.{◌≢◌, if◌then◌else◌}
use Rattle.rx_world.specs.declared.attempts.Attempt.{Attempt}
use Rattle.rx_world.specs.declared.attempts.Attempt.TheVariants.{Local, Remote}
use Rattle.rx_world.specs.declared.attempts.Plan.{Plan}
use Rattle.rx_world.specs.declared.decisions.Decision.{Decision}
use Rattle.rx_world.specs.declared.decisions.Decision.TheVariants.{By, Cancelled, Nothing, Undecided}
use Rattle.rx_world.specs.Decisions.{IsSettled}
use Rattle.rx_race.specs.declared.events.Event.{Event}
use Rattle.rx_race.specs.declared.events.Event.TheVariants.{Cancel, Offer, Start}
use Rattle.rx_race.specs.declared.events.Verdict.{Verdict}
use Rattle.rx_race.specs.declared.events.Verdict.TheVariants.{Late, Noted, Won}
use Rattle.rx_race.specs.declared.slips.Seat.{Seat}
use Rattle.rx_race.specs.declared.slips.Seat.TheVariants.{Canceller, Of}
use Rattle.rx_race.specs.declared.slips.Slip.{Slip}
use Rattle.rx_race.specs.declared.slips.Slip.TheVariants.{Live, Refused, Stopped, Told, Unused, Yielded}
use Rattle.rx_race.specs.declared.standing.Phase.{Phase}
use Rattle.rx_race.specs.declared.standing.Phase.TheVariants.{Idle, Offered, Running}
use Rattle.rx_race.specs.declared.standing.Standing.{Standing}
use Rattle.rx_race.specs.Locked.{Fits, FitsCancel, IsLocked, IsSeen, Locked}
use Rattle.rx_race.specs.Publishing.{cancel_verdict, offer_verdict}
use Rattle.rx_race.specs.Races.{Course, IsStep, cancels_of, is_cancel, standing_of, with_event}
use Rattle.rx_race.specs.Slips.{Slips, offered, slip_at, told_in, unused_slips, with_slip}
use Rattle.rx_race.specs.Standings.{after, decision_after_cancel, may_start, phase_of}
use Rattle.rx_race.proofs.SoundLemmas.{decision-after, sound-after}
use Rattle.rx_race.proofs.SoundStarts.{sound-fresh}
use Rattle.rx_race.proofs.StepLemmas.{count-append, standing-with_event}

abbrev pub at : Course → Slips → Locked
at race slips = record { race = race; slips = slips }

-- ---- what fits goes on to fit

settled-made : (d : Decision) → IsSettled d → d ≢ Undecided
settled-made Undecided h = absurd h
settled-made (By x) h = λ e. cc
settled-made Cancelled h = λ e. cc
settled-made Nothing h = absurd h

-- while a decision that was made stays
seen-kept : (d now seen : Decision) → (d ≢ Undecided → now ≡ d) → IsSeen d seen → IsSeen now seen
seen-kept d now seen kept h = subst (λ x. IsSeen x seen) (sym (kept (settled-made d h.1))) h

fits-kept : (d now : Decision) (p : Phase) (slip : Slip) → (d ≢ Undecided → now ≡ d) → Fits d p slip
    → Fits now p slip
fits-kept d now Idle Unused kept h = tt
fits-kept d now Idle Refused kept h = subst IsSettled (sym (kept (settled-made d h))) h
fits-kept d now Idle Live kept h = absurd h
fits-kept d now Idle (Stopped s) kept h = absurd h
fits-kept d now Idle (Yielded s) kept h = absurd h
fits-kept d now Idle (Told v) kept h = absurd h
fits-kept d now Running Unused kept h = absurd h
fits-kept d now Running Refused kept h = absurd h
fits-kept d now Running Live kept h = tt
fits-kept d now Running (Stopped s) kept h = seen-kept d now s kept h
fits-kept d now Running (Yielded s) kept h = absurd h
fits-kept d now Running (Told v) kept h = absurd h
fits-kept d now (Offered w) Unused kept h = absurd h
fits-kept d now (Offered w) Refused kept h = absurd h
fits-kept d now (Offered w) Live kept h = absurd h
fits-kept d now (Offered w) (Stopped s) kept h = absurd h
fits-kept d now (Offered w) (Yielded s) kept h = (h.0, seen-kept d now s kept h.1)
fits-kept d now (Offered w) (Told v) kept h = h

-- and where nothing but a cancel cancels
cancel-kept : (d now : Decision) (n m : ℕ) (slip : Slip) → m ≡ n → (d ≢ Undecided → now ≡ d)
    → (now ≡ Cancelled → d ≡ Cancelled) → FitsCancel d n slip → FitsCancel now m slip
cancel-kept d now n m Unused e kept back h = (e ∙ h.0, λ c. h.1 (back c))
cancel-kept d now n m Refused e kept back h = absurd h
cancel-kept d now n m Live e kept back h = absurd h
cancel-kept d now n m (Stopped s) e kept back h = absurd h
cancel-kept d now n m (Yielded s) e kept back h = absurd h
cancel-kept d now n m (Told Won) e kept back h = kept (λ u. cc) ∙ h
cancel-kept d now n m (Told Late) e kept back h =
    let same = kept h.0 in (λ u. h.0 (sym same ∙ u), λ c. h.1 (sym same ∙ c))
cancel-kept d now n m (Told Noted) e kept back h = absurd h

-- ---- events

-- what became of each pass fits how the race stands, and how many cancels there were
abbrev AllFit : Standing → ℕ → Slips → Type 0
AllFit s cancels slips =
    Fits s.decision s.local slips.local
    × Fits s.decision s.remote slips.remote
    × FitsCancel s.decision cancels slips.cancel

-- one event more, and what became of its pass
abbrev at_event : Course → Event → Seat → Slip → Slips → Locked
at_event race event seat slip slips = at (with_event race event) (with_slip seat slip slips)

-- the verdicts that are due
abbrev offer_told : Course → Bool → Verdict
offer_told race may = offer_verdict (standing_of race).decision may

abbrev cancel_told : Course → Verdict
cancel_told race = cancel_verdict (standing_of race).decision

-- the lock is kept by an event that may come, where what became of each pass fits
locked-more : (plan : Plan) (race : Course) (event : Event) (old new : Slips)
    → IsLocked plan (at race old) → IsStep (standing_of race) event
    → AllFit (after (standing_of race) event) (cancels_of (with_event race event)) new
    → IsLocked plan (at (with_event race event) new)
locked-more plan race event old new was step fit =
    let now = standing-with_event race event in record {
      plan_is = was.plan_is;
      sound = rw now (sound-after (standing_of race) event was.sound step);
      local = rw now fit.0;
      remote = rw now fit.1;
      cancel = rw now fit.2;
    }

pub locked-open : (plan : Plan)
    → IsLocked plan (at (record { plan = plan; events = [] }) unused_slips)
locked-open plan = record {
  plan_is = refl;
  sound = sound-fresh plan;
  local = tt;
  remote = tt;
  cancel = (refl, λ e. cc);
}

-- an event that is no cancel
no-cancel : (race : Course) (event : Event) → is_cancel event ≡ false
    → cancels_of (with_event race event) ≡ cancels_of race
no-cancel race (Start x) e = omega (arith, count-append race.events (Start x))
no-cancel race (Offer x v) e = omega (arith, count-append race.events (Offer x v))
no-cancel race (Cancel v) e = cc

pub locked-start : (plan : Plan) (race : Course) (slips : Slips) (x : Attempt)
    → IsLocked plan (at race slips) → may_start (standing_of race) x ≡ true
    → IsLocked plan (at_event race (Start x) (Of x) Live slips)
locked-start plan race slips Local was may =
    let count = no-cancel race (Start Local) refl in
    locked-more plan race (Start Local) slips _ was may (tt, was.remote, rw count was.cancel)
locked-start plan race slips Remote was may =
    let count = no-cancel race (Start Remote) refl in
    locked-more plan race (Start Remote) slips _ was may (was.local, tt, rw count was.cancel)

if-back : (over : Bool) (d : Decision) → (if over then Nothing else d) ≡ Cancelled → d ≡ Cancelled
if-back true d e = cc
if-back false d e = e

-- an offer cancels nothing
offer-back : (s : Standing) (x : Attempt) (v : Verdict) → (after s (Offer x v)).decision ≡ Cancelled
    → s.decision ≡ Cancelled
offer-back s Local Won e = cc
offer-back s Local Late e = e
offer-back s Local Noted e = if-back _ s.decision e
offer-back s Remote Won e = cc
offer-back s Remote Late e = e
offer-back s Remote Noted e = if-back _ s.decision e

-- an offer is late once an attempt won or a cancel did
pub settled-late : (d : Decision) (may : Bool) → IsSettled d → offer_verdict d may ≡ Late
settled-late Undecided may h = absurd h
settled-late (By x) may h = refl
settled-late Cancelled may h = refl
settled-late Nothing may h = absurd h

-- a pass whose attempt ran was used up
pub record IsOffer (now : Decision) (verdict : Verdict) (new : Slip) : Type 0 where
  pub fits : Fits now (Offered verdict) new
  pub told : told_in new ≡ Some verdict

pub offer-fits : (d now : Decision) (may : Bool) (slip : Slip) → (d ≢ Undecided → now ≡ d)
    → Fits d Running slip
    → IsOffer now (offer_verdict d may) (offered slip (offer_verdict d may))
offer-fits d now may Unused kept h = absurd h
offer-fits d now may Refused kept h = absurd h
offer-fits d now may Live kept h = record { fits = refl; told = refl }
offer-fits d now may (Stopped s) kept h =
    let late = settled-late d may h.1 in
    record { fits = (late, seen-kept d now s kept h); told = ap Some (sym late) }
offer-fits d now may (Yielded s) kept h = absurd h
offer-fits d now may (Told v) kept h = absurd h

pub locked-offer : (plan : Plan) (race : Course) (slips : Slips) (x : Attempt) (may : Bool)
    → IsLocked plan (at race slips) → phase_of x (standing_of race) ≡ Running
    → (let v = offer_told race may in
    IsLocked plan (at_event race (Offer x v) (Of x) (offered (slip_at (Of x) slips) v) slips))
locked-offer plan race slips Local may was run =
    let s = standing_of race in
    let event = Offer Local (offer_told race may) in
    let step : IsStep s event = (run, (may, refl)) in
    let kept = decision-after s event step in
    let running = subst (λ p. Fits s.decision p slips.local) run was.local in
    let local = (offer-fits s.decision _ may slips.local kept running).fits in
    let remote = fits-kept s.decision _ s.remote slips.remote kept was.remote in
    let count = no-cancel race event refl in
    let back = offer-back s Local _ in
    let cancel = cancel-kept s.decision _ _ _ slips.cancel count kept back was.cancel in
    locked-more plan race event slips _ was step (local, remote, cancel)
locked-offer plan race slips Remote may was run =
    let s = standing_of race in
    let event = Offer Remote (offer_told race may) in
    let step : IsStep s event = (run, (may, refl)) in
    let kept = decision-after s event step in
    let running = subst (λ p. Fits s.decision p slips.remote) run was.remote in
    let local = fits-kept s.decision _ s.local slips.local kept was.local in
    let remote = (offer-fits s.decision _ may slips.remote kept running).fits in
    let count = no-cancel race event refl in
    let back = offer-back s Remote _ in
    let cancel = cancel-kept s.decision _ _ _ slips.cancel count kept back was.cancel in
    locked-more plan race event slips _ was step (local, remote, cancel)

-- the first cancel
new-cancel : (d : Decision) (n : ℕ) → d ≢ Cancelled
    → FitsCancel (decision_after_cancel d (cancel_verdict d)) n (Told (cancel_verdict d))
new-cancel Undecided n first = refl
new-cancel (By x) n first = (λ e. cc, λ e. cc)
new-cancel Cancelled n first = absurd (first refl)
new-cancel Nothing n first = (λ e. cc, λ e. cc)

-- the cancel pass wasn't used
unused-cancel : (d : Decision) (n : ℕ) (slip : Slip) → slip ≡ Unused → FitsCancel d n slip
    → d ≢ Cancelled
unused-cancel d n slip e h = (subst (λ k. FitsCancel d n k) e h).1

pub locked-cancel : (plan : Plan) (race : Course) (slips : Slips) → IsLocked plan (at race slips)
    → slips.cancel ≡ Unused
    → (let v = cancel_told race in
    IsLocked plan (at_event race (Cancel v) Canceller (Told v) slips))
locked-cancel plan race slips was unused =
    let s = standing_of race in
    let event = Cancel (cancel_verdict s.decision) in
    let first = unused-cancel _ _ slips.cancel unused was.cancel in
    let kept = decision-after s event refl in
    let local = fits-kept s.decision _ s.local slips.local kept was.local in
    let remote = fits-kept s.decision _ s.remote slips.remote kept was.remote in
    let cancel = new-cancel s.decision (cancels_of (with_event race event)) first in
    locked-more plan race event slips _ was refl (local, remote, cancel)
