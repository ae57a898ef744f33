-- The core's state: actions by their numbers, a journal and a place.
use Rattle.std.specs.Prelude.{◌≡◌, ℕ, ◌==◌, List, Option, Some, if◌then◌else◌, option_map}
use Rattle.rx_board.specs.declared.journal.Entry.{Entry}
use Rattle.rx_core.specs.Actions.{Action}
use Rattle.rx_world.specs.declared.outcomes.FileOut.{FileOut}

pub record State (H : Type 0) : Type 0 where
  -- the actions by their numbers
  pub actions : ℕ → Option (Action H)
  pub journal : List Entry
  -- the most entries of the journal
  pub limit : ℕ
  -- the files that the place holds
  pub place : List FileOut
  -- the place's count of faults
  pub faults : ℕ

-- there is an action with this number, of which this holds
pub record Has {H : Type 0} (state : State H) (n : ℕ) (holds_of : Action H → Type 0) : Type 0 where
  pub action : Action H
  pub there : state.actions n ≡ Some action
  pub holds : holds_of action

-- an action is put in
abbrev pub with_action : {H : Type 0} → ℕ → Action H → State H → State H
with_action n a state = record state { actions = λ m. if m == n then Some a else state.actions m }

-- the action with this number changes
abbrev pub with_change : {H : Type 0} → ℕ → (Action H → Action H) → State H → State H
with_change n change state = record state {
  actions = λ m. if m == n then option_map change (state.actions m) else state.actions m;
}
