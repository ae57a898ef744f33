-- Looks and refused starts under the lock: what they keep, and what an attempt is refused for.
use Rattle.std.proofs.Common.{◌≡◌, Bool, true, false, Some, refl, ap, sym, subst, true≢false, ◌∙◌}
use Rattle.std.specs.Prelude.{◌&&◌}
use Rattle.rx_world.specs.declared.attempts.Attempt.{Attempt}
use Rattle.rx_world.specs.declared.attempts.Attempt.TheVariants.{Local, Remote}
use Rattle.rx_world.specs.declared.attempts.Plan.{Plan}
use Rattle.rx_world.specs.declared.attempts.Plan.TheVariants.{Both, Fallback, LocalOnly, RemoteOnly}
use Rattle.rx_world.specs.declared.decisions.Decision.{Decision}
use Rattle.rx_world.specs.Decisions.{IsSettled}
use Rattle.rx_race.specs.declared.events.Verdict.TheVariants.{Noted}
use Rattle.rx_race.specs.declared.slips.Seat.TheVariants.{Of}
use Rattle.rx_race.specs.declared.slips.Slip.{Slip}
use Rattle.rx_race.specs.declared.slips.Slip.TheVariants.{Live, Refused, Stopped, Told, Unused, Yielded}
use Rattle.rx_race.specs.declared.standing.Phase.{Phase}
use Rattle.rx_race.specs.declared.standing.Phase.TheVariants.{Idle, Offered, Running}
use Rattle.rx_race.specs.Locked.{Fits, IsLocked, falls_back}
use Rattle.rx_race.specs.Publishing.{offer_verdict}
use Rattle.rx_race.specs.Races.{Course, standing_of}
use Rattle.rx_race.specs.Slips.{Slips, is_live, offered, slip_at, told_in, with_slip}
use Rattle.rx_race.specs.Standings.{in_plan, is_idle, is_turn, is_undecided, may_start, phase_of}
use Rattle.rx_race.proofs.SoundOffers.{settled-unless}
use Rattle.rx_race.proofs.StepLemmas.{plan-standing, start-says}
use Rattle.rx_race.proofs.LockLemmas.{at, offer-fits}

-- what became of an attempt's pass fits how the race stands
abbrev FitsAt : Course → Attempt → Slip → Type 0
FitsAt race x slip = Fits (standing_of race).decision (phase_of x (standing_of race)) slip

pub fits-at : (plan : Plan) (race : Course) (slips : Slips) (x : Attempt)
    → IsLocked plan (at race slips) → FitsAt race x (slip_at (Of x) slips)
fits-at plan race slips Local was = was.local
fits-at plan race slips Remote was = was.remote

locked-slip : (plan : Plan) (race : Course) (slips : Slips) (x : Attempt) (slip : Slip)
    → IsLocked plan (at race slips) → FitsAt race x slip
    → IsLocked plan (at race (with_slip (Of x) slip slips))
locked-slip plan race slips Local slip was fits = record {
  plan_is = was.plan_is;
  sound = was.sound;
  local = fits;
  remote = was.remote;
  cancel = was.cancel;
}
locked-slip plan race slips Remote slip was fits = record {
  plan_is = was.plan_is;
  sound = was.sound;
  local = was.local;
  remote = fits;
  cancel = was.cancel;
}

unused-idle : (d : Decision) (p : Phase) → Fits d p Unused → p ≡ Idle
unused-idle d Idle h = refl
unused-idle d Running h = absurd h
unused-idle d (Offered v) h = absurd h

live-running : (d : Decision) (p : Phase) (slip : Slip) → is_live slip ≡ true → Fits d p slip
    → p ≡ Running
live-running d p Unused live h = cc
live-running d p Refused live h = cc
live-running d Idle Live live h = absurd h
live-running d Running Live live h = refl
live-running d (Offered v) Live live h = absurd h
live-running d Idle (Stopped s) live h = absurd h
live-running d Running (Stopped s) live h = refl
live-running d (Offered v) (Stopped s) live h = absurd h
live-running d p (Yielded s) live h = cc
live-running d p (Told v) live h = cc

-- the attempt of a live pass runs
pub runs : (plan : Plan) (race : Course) (slips : Slips) (x : Attempt)
    → IsLocked plan (at race slips) → is_live (slip_at (Of x) slips) ≡ true
    → phase_of x (standing_of race) ≡ Running
runs plan race slips x was live =
    live-running _ _ (slip_at (Of x) slips) live (fits-at plan race slips x was)

-- so its offer is told what is due
pub offer-told : (plan : Plan) (race : Course) (slips : Slips) (x : Attempt) (may : Bool)
    → IsLocked plan (at race slips) → is_live (slip_at (Of x) slips) ≡ true
    → (let v = offer_verdict (standing_of race).decision may in
    told_in (offered (slip_at (Of x) slips) v) ≡ Some v)
offer-told plan race slips x may was live =
    let d = (standing_of race).decision in
    let slip = slip_at (Of x) slips in
    let run = runs plan race slips x was live in
    let fits = subst (λ p. Fits d p slip) run (fits-at plan race slips x was) in
    (offer-fits d d may slip (λ made. refl) fits).told

-- the attempt of an unused pass wasn't started
idle : (plan : Plan) (race : Course) (slips : Slips) (x : Attempt) → IsLocked plan (at race slips)
    → slip_at (Of x) slips ≡ Unused → phase_of x (standing_of race) ≡ Idle
idle plan race slips x was unused =
    let fits = subst (λ slip. FitsAt race x slip) unused (fits-at plan race slips x was) in
    unused-idle (standing_of race).decision _ fits

pub locked-refused : (plan : Plan) (race : Course) (slips : Slips) (x : Attempt)
    → IsLocked plan (at race slips) → slip_at (Of x) slips ≡ Unused
    → IsSettled (standing_of race).decision
    → IsLocked plan (at race (with_slip (Of x) Refused slips))
locked-refused plan race slips x was unused settled =
    locked-slip plan race slips x Refused was (rw (idle plan race slips x was unused) settled)

pub locked-stopped : (plan : Plan) (race : Course) (slips : Slips) (x : Attempt)
    → IsLocked plan (at race slips) → is_live (slip_at (Of x) slips) ≡ true
    → IsSettled (standing_of race).decision
    → (let seen = (standing_of race).decision in
    IsLocked plan (at race (with_slip (Of x) (Stopped seen) slips)))
locked-stopped plan race slips x was live settled =
    let seen = (standing_of race).decision in
    locked-slip plan race slips x (Stopped seen) was
    (rw (runs plan race slips x was live) (refl, settled))

-- ---- starts that are refused

third : (a b c d : Bool) → a ≡ true → b ≡ true → d ≡ true → (a && b && c && d) ≡ false → c ≡ false
third true true true true e f g h = cc
third true true false d e f g h = refl
third true true true false e f g h = cc
third true false c d e f g h = cc
third false b c d e f g h = cc

-- an attempt that could start but for the decision wasn't started, so it isn't decided for nothing
pub refused-settled : (plan : Plan) (race : Course) (slips : Slips) (x : Attempt)
    → IsLocked plan (at race slips) → slip_at (Of x) slips ≡ Unused
    → may_start (standing_of race) x ≡ false
    → in_plan plan x ≡ true → is_turn plan x (standing_of race).remote ≡ true
    → IsSettled (standing_of race).decision
refused-settled plan race slips x was unused refused planned turn =
    let s = standing_of race in
    let plan_is = plan-standing race ∙ was.plan_is in
    let planned_here : in_plan s.plan x ≡ true = rw plan_is planned in
    let turn_here : is_turn s.plan x s.remote ≡ true = rw plan_is turn in
    let idle_is = idle plan race slips x was unused in
    let is_new = ap is_idle idle_is in
    let open_is = is_undecided s.decision in
    let made = third (in_plan s.plan x) _ open_is _ planned_here is_new turn_here refused in
    settled-unless s.decision
    (λ e. true≢false (sym (ap is_undecided e) ∙ made))
    (λ e. let noted = was.sound.nothing e x planned_here in absurd (cc))

-- only the local attempt under Fallback waits
pub no-wait : (plan : Plan) (x : Attempt) (p : Phase) → falls_back plan x ≡ false
    → is_turn plan x p ≡ true
no-wait LocalOnly x p e = refl
no-wait RemoteOnly x p e = refl
no-wait Fallback Local p e = cc
no-wait Fallback Remote p e = refl
no-wait Both x p e = refl

-- and that until the remote one was noted
noted-turn : (plan : Plan) (x : Attempt) (d : Decision) (p : Phase) → Fits d p (Told Noted)
    → is_turn plan x p ≡ true
noted-turn LocalOnly x d p h = refl
noted-turn RemoteOnly x d p h = refl
noted-turn Fallback Local d Idle h = absurd h
noted-turn Fallback Local d Running h = absurd h
noted-turn Fallback Local d (Offered v) h = rw (← h) refl
noted-turn Fallback Remote d p h = refl
noted-turn Both x d p h = refl

pub turn-after : (plan : Plan) (race : Course) (slips : Slips) (x : Attempt)
    → IsLocked plan (at race slips) → slips.remote ≡ Told Noted
    → is_turn plan x (standing_of race).remote ≡ true
turn-after plan race slips x was noted =
    let fits = subst (λ slip. FitsAt race Remote slip) noted was.remote in
    noted-turn plan x (standing_of race).decision _ fits

-- an attempt that was started is in the plan
pub start-planned : (plan : Plan) (race : Course) (slips : Slips) (x : Attempt)
    → IsLocked plan (at race slips) → may_start (standing_of race) x ≡ true → in_plan plan x ≡ true
start-planned plan race slips x was may =
    rw (← was.plan_is, ← plan-standing race) (start-says (standing_of race) x may).planned
