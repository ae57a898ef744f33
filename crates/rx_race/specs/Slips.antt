-- What became of the passes of a shared race, and the tickets and books that say so.
use Rattle.std.specs.Prelude.{◌≡◌, ℕ, ◌+◌, Bool, false, true, Option, None, Some}
use Rattle.rx_world.specs.declared.attempts.Attempt.TheVariants.{Local, Remote}
use Rattle.rx_world.specs.declared.decisions.Decision.{Decision}
use Rattle.rx_world.specs.declared.decisions.Decision.TheVariants.{By, Cancelled, Nothing, Undecided}
use Rattle.rx_race.specs.declared.contests.Blanks.{Blanks}
use Rattle.rx_race.specs.declared.events.Verdict.{Verdict}
use Rattle.rx_race.specs.declared.events.Verdict.TheVariants.{Late, Noted, Won}
use Rattle.rx_race.specs.declared.slips.Seat.{Seat}
use Rattle.rx_race.specs.declared.slips.Seat.TheVariants.{Canceller, Of}
use Rattle.rx_race.specs.declared.slips.Slip.{Slip}
use Rattle.rx_race.specs.declared.slips.Slip.TheVariants.{Live, Refused, Stopped, Told, Unused, Yielded}

-- ---- tickets

-- whose pass, and what became of it
pub record Ticket : Type 0 where
  pub seat : Seat
  pub slip : Slip

-- the attempt of the pass runs
abbrev pub is_live : Slip → Bool
is_live Unused = false
is_live Refused = false
is_live Live = true
is_live (Stopped decision) = true
is_live (Yielded decision) = false
is_live (Told verdict) = false

-- the attempt of the pass wasn't started
abbrev pub is_unstarted : Slip → Bool
is_unstarted Unused = true
is_unstarted Refused = true
is_unstarted Live = false
is_unstarted (Stopped decision) = false
is_unstarted (Yielded decision) = false
is_unstarted (Told verdict) = false

-- the decision that the attempt of the pass has seen
abbrev pub seen_in : Slip → Option Decision
seen_in Unused = None
seen_in Refused = None
seen_in Live = None
seen_in (Stopped decision) = Some decision
seen_in (Yielded decision) = Some decision
seen_in (Told verdict) = None

-- what becomes of a live pass whose offer was told this
abbrev pub offered : Slip → Verdict → Slip
offered Unused verdict = Told verdict
offered Refused verdict = Told verdict
offered Live verdict = Told verdict
offered (Stopped decision) verdict = Yielded decision
offered (Yielded decision) verdict = Yielded decision
offered (Told told) verdict = Told verdict

-- what was told to a pass that was used up
abbrev pub told_in : Slip → Option Verdict
told_in Unused = None
told_in Refused = None
told_in Live = None
told_in (Stopped decision) = None
told_in (Yielded decision) = Some Late
told_in (Told verdict) = Some verdict

-- ---- the desk

-- what became of each pass
pub record Slips : Type 0 where
  pub local : Slip
  pub remote : Slip
  pub cancel : Slip

abbrev pub unused_slips : Slips
unused_slips = record { local = Unused; remote = Unused; cancel = Unused }

abbrev pub slip_at : Seat → Slips → Slip
slip_at (Of Local) slips = slips.local
slip_at (Of Remote) slips = slips.remote
slip_at Canceller slips = slips.cancel

abbrev pub with_slip : Seat → Slip → Slips → Slips
with_slip (Of Local) slip slips = record slips { local = slip }
with_slip (Of Remote) slip slips = record slips { remote = slip }
with_slip Canceller slip slips = record slips { cancel = slip }

-- ---- ledgers

-- the number of a decision: below 5
abbrev pub number_of : Decision → ℕ
number_of Undecided = 0
number_of (By Local) = 1
number_of (By Remote) = 2
number_of Cancelled = 3
number_of Nothing = 4

-- the number that stands for a slip in a ledger
abbrev pub code : Slip → ℕ
code Unused = 0
code Refused = 1
code Live = 2
code (Told Won) = 3
code (Told Late) = 4
code (Told Noted) = 5
code (Stopped decision) = 6 + number_of decision
code (Yielded decision) = 11 + number_of decision

-- a share that is whole, and has this number
pub record IsWhole (parts amount n : ℕ) : Type 0 where
  pub whole : parts ≡ 1
  pub amount_is : amount ≡ n

-- the share of the seat is whole, and has the number of its slip
abbrev pub IsTicket : Seat → ℕ → ℕ → ℕ → ℕ → ℕ → ℕ → ℕ → Type 0
IsTicket (Of Local) n local held remote kept cancel left = IsWhole local held n
IsTicket (Of Remote) n local held remote kept cancel left = IsWhole remote kept n
IsTicket Canceller n local held remote kept cancel left = IsWhole cancel left n

-- each book has the number of what became of its pass
pub record AreBooked (slips : Slips) (local remote cancel : ℕ) : Type 0 where
  pub local_is : local ≡ code slips.local
  pub remote_is : remote ≡ code slips.remote
  pub cancel_is : cancel ≡ code slips.cancel

-- three ledgers of these names, each of one part
pub record AreBlank (blanks : Blanks) (local remote cancel : ℕ) : Type 0 where
  pub local_is : (blanks.local.name ≡ local) × (blanks.local.parts ≡ 1)
  pub remote_is : (blanks.remote.name ≡ remote) × (blanks.remote.parts ≡ 1)
  pub cancel_is : (blanks.cancel.name ≡ cancel) × (blanks.cancel.parts ≡ 1)
