-- The remote attempt of the proxy: what it asks and hears of a farm, and the end that this leaves.
use Rattle.std.specs.Prelude.{◌≡◌, ℕ, List}
use Rattle.rx_base.specs.declared.digests.Digest.{Digest}
use Rattle.rx_core.specs.Remote.{Job, Rules}
use Rattle.rx_remote.specs.declared.tasks.Task.{Task}
use Rattle.rx_remote.specs.History.{next_of}
use Rattle.rx_remote.specs.Honest.{IsHonestHistory}
use Rattle.rx_remote.specs.Legal.{Fits}
use Rattle.rx_remote.specs.Marks.{Turn}
use Rattle.rx_remote.specs.Ends.{end_in, stop_heard}
use Rattle.rx_world.specs.declared.commands.Command.{Command}
use Rattle.rx_world.specs.declared.outcomes.Outcome.{Outcome}
use Rattle.rx_world.specs.declared.trees.Tree.{Tree}

-- what the remote attempt of a job is about
abbrev pub task_of : Job → Task
task_of job = record { command = job.command; accept_cached = job.accept_cached }

-- The ask is the one that the earlier turns leave, and what was heard answers it.
pub record IsNextTurn (job : Job) (earlier : List Turn) (turn : Turn) : Type 0 where
  pub asked : turn.ask ≡ next_of (task_of job) earlier
  pub answers : Fits job.blobs turn.ask turn.heard

-- Each turn is an ask with what was heard to it. An honest farm runs the command as the tool does.
abbrev pub farm_rules : (Digest → List ℕ) → (Command → Tree → Outcome) → Rules Turn
farm_rules blob tool = record {
  Fits = IsNextTurn;
  decision_of = λ turn. stop_heard turn.heard;
  end_of = λ job heard. end_in (next_of (task_of job) heard);
  IsHonest = λ job heard. IsHonestHistory blob job.command (tool job.command job.tree) heard;
}
