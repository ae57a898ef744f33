-- The state that an attempt keeps of its history.
use Rattle.std.specs.Prelude.{◌≡◌, ◌≢◌, List, ◌∷◌}
use Rattle.rx_remote.specs.declared.asks.Ask.{Ask}
use Rattle.rx_remote.specs.declared.asks.Heard.{Heard}
use Rattle.rx_remote.specs.declared.marks.Marks.{Marks}
use Rattle.rx_remote.specs.declared.phases.Phase.{Phase}
use Rattle.rx_remote.specs.declared.phases.Phase.TheVariants as phases
use Rattle.rx_remote.specs.declared.states.RemoteState.{RemoteState}
use Rattle.rx_remote.specs.declared.tasks.Task.{Task}
use Rattle.rx_remote.specs.History.{after, next_of}
use Rattle.rx_remote.specs.Marks.{Turn, marks_after, marks_of, phase_of}

-- What was heard leads to an ask, and to what the longer history shows, unless the ask is the end.
pub record Leads (task : Task) (marks : Marks) (phase : Phase) (heard : Heard) (new : Marks) (ask : Ask) : Type 0 where
  pub ask_is : ask ≡ after task (marks_after task.command marks heard) phase heard
  pub marks_are : phase_of ask ≢ phases.Ended → new ≡ marks_after task.command marks heard

-- The state shows what the history shows, and waits for the answer to the ask that this leaves.
pub record IsStateOf (task : Task) (history : List Turn) (state : RemoteState) : Type 0 where
  pub task_is : state.task ≡ task
  pub marks_are : state.marks ≡ marks_of task.command history
  pub phase_is : state.phase ≡ phase_of (next_of task history)

-- the history with one answer more, to the ask that it leaves
abbrev pub heard_then : Task → List Turn → Heard → List Turn
heard_then task history heard = record { ask = next_of task history; heard = heard } ∷ history

-- The ask is the one that the longer history leaves, and the state is its state, unless that is the end.
pub record IsStep (task : Task) (history : List Turn) (heard : Heard) (next : RemoteState) (ask : Ask) : Type 0 where
  pub ask_is : ask ≡ next_of task (heard_then task history heard)
  pub state_is : phase_of ask ≢ phases.Ended → IsStateOf task (heard_then task history heard) next
