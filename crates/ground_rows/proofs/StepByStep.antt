-- A run that is shown step by step.
use Rattle.std.proofs.Common.{◌≡◌, ℕ, Some}
use Rattle.rx_core.specs.Actions.{Action}
use Rattle.rx_core.specs.States.{Has, State}

-- one step, and then the others
infixr 5 ◌▸◌
pub ◌▸◌ : {A B : Type 0} → A → B → A × B
here ▸ later = (here, later)

-- the action is there, and the step may come
pub at : {H : Type 0} {state : State H} {n : ℕ} {P : Action H → Type 0} {a : Action H}
    → state.actions n ≡ Some a → P a → Has state n P
at there holds = record { action = _; there = there; holds = holds }
