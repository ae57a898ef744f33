-- The front of a run of sessions in threads, and the status of the run.
use Rattle.std.specs.Prelude.{◌≡◌, ◌≢◌, ℕ, ◌+◌, ◌≤◌, Bool, false, true, List, Option, None, Some, if◌then◌else◌, length}
use Rattle.std.specs.declared.sync.ledger.Blank.{Blank}
use Rattle.rx_world.specs.Causes.{Rose}
use Rattle.rx_daemon.specs.declared.gate.Left.{Left}
use Rattle.rx_daemon.specs.declared.gate.Left.TheVariants.{Ended, Lost, Spent}
use Rattle.rx_daemon.specs.Fronts.{GivesAll}
use Rattle.rx_daemon.specs.Rights.{AreLeft, most_numbers}

-- a front, why it can't be asked any more, how many desks were taken from it, and the rights to numbers that are left
pub record Entrance (F : Type 0) : Type 0 where
  pub front : F
  pub left : Option Left
  pub taken : ℕ
  pub rights : List Blank

-- The front's count of faults didn't fall since it stood at first, and the front is called lost only where that count rose. Since then it gave
-- these desks, as many as were taken, but where it is lost, when it may have counted more. It is called ended only where it said so, and spent only
-- where no number is left. There is a right for each number that wasn't given.
pub record IsGate {F D : Type 0} (coming : F → Option (List D)) (faults given : F → ℕ) (over : F → Bool) (gives : ℕ → D → Type 0)
    (first : Option (List D)) (first_gives : ℕ → D → Type 0) (first_faults first_given : ℕ) (rights : List Blank) (gate : Entrance F) : Type 0 where
  pub later : first_faults ≤ faults gate.front
  pub lost : gate.left ≡ Some Lost → Rose first_faults (faults gate.front)
  pub desks : List D
  pub gave : GivesAll first (coming gate.front) desks
  pub count : length desks ≡ gate.taken
  pub within : first_given + gate.taken ≤ given gate.front
  pub each : gate.left ≢ Some Lost → first_given + gate.taken ≡ given gate.front
  pub ended : gate.left ≡ Some Ended → over gate.front ≡ true
  pub spent : gate.left ≡ Some Spent → gate.taken ≡ most_numbers
  pub kinds : (n : ℕ) (desk : D) → gives n desk → first_gives n desk
  pub numbers : gate.taken + length gate.rights ≡ length rights
  pub most : length rights ≡ most_numbers
  pub rights_are : AreLeft rights gate.rights

-- a number and the right to it
pub record Claimed : Type 0 where
  pub number : ℕ
  pub right : Blank

-- The status: 8 where the journal isn't that of the sessions, else 3 where the front was lost, else 4 where memory for one session more was
-- wanting. Else it is 7 where the numbers ran out, and 0 where the front had ended or a session was asked to end the run; and where none of these is
-- so, there was no memory to begin with.
abbrev pub serving_status_by : Option Left → Bool → Bool → ℕ
serving_status_by (Some Lost) starved asked = 3
serving_status_by (Some Ended) starved asked = if starved then 4 else 0
serving_status_by (Some Spent) starved asked = if starved then 4 else 7
serving_status_by None starved asked = if starved then 4 else if asked then 0 else 4

abbrev pub serving_status : Option Left → Bool → Bool → Bool → ℕ
serving_status left starved asked agreed = if agreed then serving_status_by left starved asked else 8
