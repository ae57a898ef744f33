-- Honest runs: what comes of them is what the commands make of their trees.
use Rattle.std.specs.Prelude.{◌≡◌, ℕ, Some, IfSome}
use Rattle.rx_core.specs.Actions.{Action, won}
use Rattle.rx_core.specs.Attempts.{end_in}
use Rattle.rx_core.specs.Remote.{Job, Rules}
use Rattle.rx_core.specs.States.{State}
use Rattle.rx_world.specs.declared.attempts.End.{End}
use Rattle.rx_world.specs.declared.attempts.End.TheVariants.{Done, Failed}
use Rattle.rx_world.specs.declared.commands.Command.{Command}
use Rattle.rx_world.specs.declared.outcomes.Outcome.{Outcome}
use Rattle.rx_world.specs.declared.trees.Tree.{Tree}
use Rattle.rx_world.specs.Outcomes.{IsClean}

-- an outcome is the clean run of the command on the tree
abbrev pub IsCleanEnd : {C : Type 0} → (Command → Tree → Outcome) → Job → End Outcome C → Type 0
IsCleanEnd tool job (Done outcome origin) = IsClean tool job.command job.tree outcome
IsCleanEnd tool job (Failed cause) = Unit {0}

-- The local outcome is clean, and what the remote attempt heard is honest. A run is honest where
-- this holds of each action.
pub record IsHonest {H : Type 0} (tool : Command → Tree → Outcome) (rules : Rules H) (a : Action H)
    : Type 0 where
  pub local : IfSome (end_in a.local) (IsCleanEnd tool a.job)
  pub heard : rules.IsHonest a.job a.heard

-- each outcome is clean, and so is the one that won
pub record AllClean {H : Type 0} (tool : Command → Tree → Outcome) (a : Action H) : Type 0 where
  pub local : IfSome (end_in a.local) (IsCleanEnd tool a.job)
  pub remote : IfSome (end_in a.remote) (IsCleanEnd tool a.job)
  pub winner : IfSome (won a) (λ finished. IsClean tool a.job.command a.job.tree finished.outcome)

-- honest actions come to clean outcomes
abbrev pub AreClean : {H : Type 0} → (Command → Tree → Outcome) → Rules H → State H → Type 0
AreClean tool rules state =
    (n : ℕ) (a : Action _) → state.actions n ≡ Some a → IsHonest tool rules a → AllClean tool a
