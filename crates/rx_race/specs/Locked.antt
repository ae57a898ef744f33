-- A race under its lock: what became of each pass, by how the race stands.
use Rattle.std.specs.Prelude.{◌≡◌, ◌≢◌, ◌⊎◌, ℕ, Bool, false, true, Some}
use Rattle.rx_world.specs.declared.attempts.Attempt.{Attempt}
use Rattle.rx_world.specs.declared.attempts.Attempt.TheVariants.{Local, Remote}
use Rattle.rx_world.specs.declared.attempts.Plan.{Plan}
use Rattle.rx_world.specs.declared.attempts.Plan.TheVariants.{Both, Fallback, LocalOnly, RemoteOnly}
use Rattle.rx_world.specs.declared.decisions.Decision.{Decision}
use Rattle.rx_world.specs.declared.decisions.Decision.TheVariants.{By, Cancelled, Undecided}
use Rattle.rx_world.specs.Decisions.{IsSettled}
use Rattle.rx_race.specs.declared.events.Verdict.TheVariants.{Late, Noted, Won}
use Rattle.rx_race.specs.declared.slips.Seat.{Seat}
use Rattle.rx_race.specs.declared.slips.Seat.TheVariants.{Canceller, Of}
use Rattle.rx_race.specs.declared.slips.Slip.{Slip}
use Rattle.rx_race.specs.declared.slips.Slip.TheVariants.{Live, Refused, Stopped, Told, Unused, Yielded}
use Rattle.rx_race.specs.declared.standing.Phase.{Phase}
use Rattle.rx_race.specs.declared.standing.Phase.TheVariants.{Idle, Offered, Running}
use Rattle.rx_race.specs.Races.{Course, cancels_of, standing_of}
use Rattle.rx_race.specs.Slips.{Slips, Ticket, is_unstarted, seen_in, slip_at, told_in}
use Rattle.rx_race.specs.Sound.{Sound}
use Rattle.rx_race.specs.Standings.{in_plan}

-- the decision that an attempt saw is the race's
abbrev pub IsSeen : Decision → Decision → Type 0
IsSeen decision seen = (seen ≡ decision) × IsSettled decision

-- what becomes of an attempt's pass, by the decision and by how far the attempt is
abbrev pub Fits : Decision → Phase → Slip → Type 0
Fits decision Idle Unused = Unit {0}
Fits decision Idle Refused = IsSettled decision
Fits decision Running Live = Unit {0}
Fits decision Running (Stopped seen) = IsSeen decision seen
Fits decision (Offered verdict) (Yielded seen) = (verdict ≡ Late) × IsSeen decision seen
Fits decision (Offered verdict) (Told told) = told ≡ verdict
Fits decision phase slip = ⊥

-- what becomes of the cancel pass, by the decision and by how many cancels there were
abbrev pub FitsCancel : Decision → ℕ → Slip → Type 0
FitsCancel decision cancels Unused = (cancels ≡ 0) × (decision ≢ Cancelled)
FitsCancel decision cancels (Told Won) = decision ≡ Cancelled
FitsCancel decision cancels (Told Late) = (decision ≢ Undecided) × (decision ≢ Cancelled)
FitsCancel decision cancels slip = ⊥

-- a race under its lock
pub record Locked : Type 0 where
  pub race : Course
  pub slips : Slips

-- what is kept under the lock: the race has the plan, and what became of each pass fits it
pub record IsLocked (plan : Plan) (l : Locked) : Type 0 where
  pub plan_is : l.race.plan ≡ plan
  pub sound : Sound (standing_of l.race)
  pub local : Fits (standing_of l.race).decision (standing_of l.race).local l.slips.local
  pub remote : Fits (standing_of l.race).decision (standing_of l.race).remote l.slips.remote
  pub cancel : FitsCancel (standing_of l.race).decision (cancels_of l.race) l.slips.cancel

-- ---- starts

-- the attempt waits for the end of the other one
abbrev pub falls_back : Plan → Attempt → Bool
falls_back Fallback Local = true
falls_back Fallback Remote = false
falls_back LocalOnly attempt = false
falls_back RemoteOnly attempt = false
falls_back Both attempt = false

-- the pass of an attempt that wasn't started
pub record IsUnstarted (x : Attempt) (ticket : Ticket) : Type 0 where
  pub seat : ticket.seat ≡ Of x
  pub slip : is_unstarted ticket.slip ≡ true

-- a look found the race decided for an attempt or cancelled
abbrev pub IsLook : Slip → Type 0
IsLook Unused = ⊥
IsLook Refused = Unit {0}
IsLook Live = ⊥
IsLook (Stopped decision) = Unit {0}
IsLook (Yielded decision) = Unit {0}
IsLook (Told verdict) = ⊥

-- ---- what became of all three passes

abbrev pub slips_of : Slip → Slip → Slip → Slips
slips_of local remote cancel = record { local = local; remote = remote; cancel = cancel }

-- one of the passes was told that it won
abbrev pub SomeoneWon : Slips → Type 0
SomeoneWon slips = (seat : Seat) × (slip_at seat slips ≡ Told Won)

-- what a race is decided for, where this pass won
abbrev pub decision_for : Seat → Decision
decision_for (Of x) = By x
decision_for Canceller = Cancelled

-- the race is decided so, by the pass that was told that it won
abbrev pub IsDecidedFor : Decision → Slips → Type 0
IsDecidedFor decision slips =
    (seat : Seat) × (slip_at seat slips ≡ Told Won) × (decision ≡ decision_for seat)

-- each attempt of the plan was noted
abbrev pub AllNoted : Plan → Slips → Type 0
AllNoted plan slips = (x : Attempt) → in_plan plan x ≡ true → slip_at (Of x) slips ≡ Told Noted

-- What the three passes of a race were told.
pub record AreTold (plan : Plan) (slips : Slips) : Type 0 where
  -- at most one of them won
  pub one : (a b : Seat) → slip_at a slips ≡ Told Won → slip_at b slips ≡ Told Won → a ≡ b
  -- and none where each attempt of the plan was noted
  pub none : AllNoted plan slips → SomeoneWon slips → ⊥
  -- an attempt was late, or was refused or stopped, only where one won
  pub late : (x : Attempt) → told_in (slip_at (Of x) slips) ≡ Some Late → SomeoneWon slips
  pub look : (x : Attempt) → IsLook (slip_at (Of x) slips) → SomeoneWon slips
  -- and a decision that an attempt saw is for the one that won
  pub seen : (x : Attempt) (decision : Decision)
      → seen_in (slip_at (Of x) slips) ≡ Some decision → IsDecidedFor decision slips
  -- a cancel was late only where one won, or where each attempt of the plan was noted
  pub late_cancel : slip_at Canceller slips ≡ Told Late → SomeoneWon slips ⊎ AllNoted plan slips
