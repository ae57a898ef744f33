-- One event more: what a race keeps of its events stays true, and there was room for it.
use Rattle.std.proofs.Common.{◌≡◌, ℕ, ◌+◌, ◌<◌, ◌≤◌, Bool, true, false, List, [], ◌∷◌, ◌++◌, arith, cond, count_by, length, length-append, refl, ap, ◌∙◌}
use Rattle.std.specs.Prelude.{◌&&◌}
use Rattle.std.proofs.lemmas.List.Sums.{sum_by-append}
use Rattle.rx_world.specs.declared.attempts.Attempt.{Attempt}
use Rattle.rx_world.specs.declared.attempts.Attempt.TheVariants.{Local, Remote}
use Rattle.rx_world.specs.declared.decisions.Decision.{Decision}
use Rattle.rx_world.specs.declared.decisions.Decision.TheVariants.{By, Cancelled, Nothing, Undecided}
use Rattle.rx_race.specs.declared.events.Event.{Event}
use Rattle.rx_race.specs.declared.events.Event.TheVariants.{Cancel, Offer, Start}
use Rattle.rx_race.specs.declared.standing.Phase.{Phase}
use Rattle.rx_race.specs.declared.standing.Phase.TheVariants.{Idle, Offered, Running}
use Rattle.rx_race.specs.declared.standing.Standing.{Standing}
use Rattle.rx_race.specs.Races.{AreSteps, Course, IsRace, IsStep, events_until, is_cancel, replay, standing_of, with_event}
use Rattle.rx_race.specs.Standings.{after, fresh, in_plan, is_idle, is_turn, is_undecided, may_start, phase_of}

pub replay-append : (s : Standing) (events : List Event) (event : Event)
    → replay s (events ++ event ∷ []) ≡ after (replay s events) event
replay-append s [] event = refl
replay-append s (first ∷ events) event = replay-append (after s first) events event

pub standing-with_event : (race : Course) (event : Event)
    → standing_of (with_event race event) ≡ after (standing_of race) event
standing-with_event race event = replay-append (fresh race.plan) race.events event

-- the plan stays
pub plan-after : (s : Standing) (event : Event) → (after s event).plan ≡ s.plan
plan-after s (Start Local) = refl
plan-after s (Start Remote) = refl
plan-after s (Offer Local v) = refl
plan-after s (Offer Remote v) = refl
plan-after s (Cancel v) = refl

plan-replay : (s : Standing) (events : List Event) → (replay s events).plan ≡ s.plan
plan-replay s [] = refl
plan-replay s (event ∷ events) = plan-replay (after s event) events ∙ plan-after s event

pub plan-standing : (race : Course) → (standing_of race).plan ≡ race.plan
plan-standing race = plan-replay (fresh race.plan) race.events

-- one step more
steps-append : (s : Standing) (events : List Event) (event : Event) → AreSteps s events
    → IsStep (replay s events) event → AreSteps s (events ++ event ∷ [])
steps-append s [] event steps step = (step, tt)
steps-append s (first ∷ events) event steps step =
    (steps.0, steps-append (after s first) events event steps.1 step)

-- what a start that is allowed says
pub record Starts (s : Standing) (x : Attempt) : Type 0 where
  pub planned : in_plan s.plan x ≡ true
  pub idle : phase_of x s ≡ Idle
  pub undecided : s.decision ≡ Undecided
  pub turn : is_turn s.plan x s.remote ≡ true

idle-is : (p : Phase) → is_idle p ≡ true → p ≡ Idle
idle-is Idle e = refl
idle-is Running e = cc
idle-is (Offered v) e = cc

undecided-is : (d : Decision) → is_undecided d ≡ true → d ≡ Undecided
undecided-is Undecided e = refl
undecided-is (By x) e = cc
undecided-is Cancelled e = cc
undecided-is Nothing e = cc

record All4 (a b c d : Bool) : Type 0 where
  first : a ≡ true
  second : b ≡ true
  third : c ≡ true
  fourth : d ≡ true

all-four : (a b c d : Bool) → (a && b && c && d) ≡ true → All4 a b c d
all-four true true true true e = record { first = refl; second = refl; third = refl; fourth = refl }
all-four true true true false e = cc
all-four true true false d e = cc
all-four true false c d e = cc
all-four false b c d e = cc

pub start-says : (s : Standing) (x : Attempt) → may_start s x ≡ true → Starts s x
start-says s x e =
    let idle = is_idle (phase_of x s) in
    let turn = is_turn s.plan x s.remote in
    let all = all-four (in_plan s.plan x) idle (is_undecided s.decision) turn e in
    record {
      planned = all.first;
      idle = idle-is (phase_of x s) all.second;
      undecided = undecided-is s.decision all.third;
      turn = all.fourth;
    }

-- how many events both attempts have had
abbrev of_attempts : Standing → ℕ
of_attempts s = events_until s.local + events_until s.remote

-- an attempt has had one event more, or there is one cancel more
one-more : (s : Standing) (event : Event) → IsStep s event
    → of_attempts (after s event) + count_by is_cancel (event ∷ []) ≡ of_attempts s + 1
one-more s (Start Local) step =
    let had = ap events_until (start-says s Local step).idle in omega (arith, had)
one-more s (Start Remote) step =
    let had = ap events_until (start-says s Remote step).idle in omega (arith, had)
one-more s (Offer Local v) step = let had = ap events_until step.0 in omega (arith, had)
one-more s (Offer Remote v) step = let had = ap events_until step.0 in omega (arith, had)
one-more s (Cancel v) step = refl

pub count-append : (events : List Event) (event : Event)
    → count_by is_cancel (events ++ event ∷ [])
    ≡ count_by is_cancel events + count_by is_cancel (event ∷ [])
count-append events event =
    sum_by-append (λ (e : Event). cond (is_cancel e) 1 0) events (event ∷ [])

pub goes-on : (s : Standing) (events : List Event) (capacity : ℕ) (event : Event)
    → IsRace s events capacity → IsStep s event → count_by is_cancel (events ++ event ∷ []) ≤ 2
    → IsRace (after s event) (events ++ event ∷ []) capacity
goes-on s events capacity event race step few =
    let plan = plan-after s event in
    let longer = length-append events (event ∷ []) in record {
      replays = rw plan
          (replay-append (fresh s.plan) events event ∙ ap (λ t. after t event) race.replays);
      steps = rw plan (steps-append (fresh s.plan) events event race.steps (rw race.replays step));
      number = omega
          (arith, race.number, one-more s event step, count-append events event, longer);
      cancels = few;
      room = race.room;
    }

two-at-most : (p : Phase) → events_until p ≤ 2
two-at-most Idle = omega arith
two-at-most Running = omega arith
two-at-most (Offered v) = omega arith

pub has-room : (s : Standing) (events : List Event) (capacity : ℕ) (event : Event)
    → IsRace s events capacity → IsStep s event → count_by is_cancel (events ++ event ∷ []) ≤ 2
    → length events < capacity
has-room s events capacity event race step few =
    let more = one-more s event step in
    let local = two-at-most (after s event).local in
    let remote = two-at-most (after s event).remote in
    omega (arith, race.number, race.room, more, count-append events event, few, local, remote)

-- a start and an offer are no cancel
pub few-start : (events : List Event) (x : Attempt) → count_by is_cancel events ≤ 2
    → count_by is_cancel (events ++ Start x ∷ []) ≤ 2
few-start events x few = omega (arith, few, count-append events (Start x))

pub few-offer : (events : List Event) (x : Attempt) (v : _) → count_by is_cancel events ≤ 2
    → count_by is_cancel (events ++ Offer x v ∷ []) ≤ 2
few-offer events x v few = omega (arith, few, count-append events (Offer x v))

pub few-cancel : (events : List Event) (v : _) → count_by is_cancel events ≤ 1
    → count_by is_cancel (events ++ Cancel v ∷ []) ≤ 2
few-cancel events v few = omega (arith, few, count-append events (Cancel v))
