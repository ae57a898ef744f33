-- The farm's attempts meet the laws of a remote attempt.
use Rattle.std.specs.Prelude.{ℕ, List, [], ◌∷◌}
use Rattle.rx_base.specs.declared.digests.Digest.{Digest}
use Rattle.rx_core.specs.FarmHistories.{farm_rules, task_of}
use Rattle.rx_core.specs.Remote.{AreHeard, AreLawful, Job}
use Rattle.rx_remote.specs.History.{next_of}
use Rattle.rx_remote.specs.Legal.{IsLegal}
use Rattle.rx_remote.specs.Marks.{Turn}
use Rattle.rx_remote.proofs.CleanEnds.{done-clean}
use Rattle.rx_remote.proofs.SoundEnds.{done-sound}
use Rattle.rx_remote.proofs.StopEnds.{end-is, stop-heard}
use Rattle.rx_world.specs.declared.attempts.End.TheVariants.{Done, Failed}
use Rattle.rx_world.specs.declared.commands.Command.{Command}
use Rattle.rx_world.specs.declared.outcomes.Outcome.{Outcome}
use Rattle.rx_world.specs.declared.remote_causes.RemoteCause.TheVariants.{Stopped}
use Rattle.rx_world.specs.declared.trees.Tree.{Tree}

-- turns that may come one after the other are a legal history
legal : (blob : Digest → List ℕ) (tool : Command → Tree → Outcome) (job : Job) (heard : List Turn) →
    AreHeard (farm_rules blob tool) job heard → IsLegal (task_of job) job.blobs heard
legal blob tool job [] are = tt
legal blob tool job (turn ∷ earlier) are = (are.0.asked, are.0.answers, legal blob tool job earlier are.1)

pub farm-lawful : (blob : Digest → List ℕ) (tool : Command → Tree → Outcome) → AreLawful tool (farm_rules blob tool)
farm-lawful blob tool = record {
  proper = λ job heard outcome origin are e.
      (done-sound (task_of job) job.blobs heard outcome origin (legal blob tool job heard are) (end-is (next_of (task_of job) heard) (Done outcome origin) e)).proper;
  stops = λ job turn earlier decision are e.
      stop-heard (task_of job) turn.ask turn.heard earlier decision (end-is (next_of (task_of job) (turn ∷ earlier)) (Failed (Stopped decision)) e);
  clean = λ job heard outcome origin are honest e.
      done-clean tool blob (task_of job) job.tree job.blobs heard outcome origin (legal blob tool job heard are) honest
      (end-is (next_of (task_of job) heard) (Done outcome origin) e);
}
