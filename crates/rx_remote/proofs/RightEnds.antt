-- What a step leads to is sound, and right where the farm was honest.
use Rattle.std.proofs.Common.{◌≡◌, ◌∙◌, List, sym, subst}
use Rattle.rx_remote.specs.declared.asks.Ask.{Ask}
use Rattle.rx_remote.specs.declared.asks.Heard.{Heard}
use Rattle.rx_remote.specs.declared.tasks.Task.{Task}
use Rattle.rx_remote.specs.Fine.{IsFine, IsRightAfter, IsSoundAfter}
use Rattle.rx_remote.specs.History.{next_of}
use Rattle.rx_remote.specs.Marks.{Turn}
use Rattle.rx_remote.specs.States.{heard_then}
use Rattle.rx_remote.proofs.CleanEnds.{done-clean}
use Rattle.rx_remote.proofs.FineEnds.{honest-fine}
use Rattle.rx_remote.proofs.SoundEnds.{done-sound}

pub right-after : (task : Task) (history : List Turn) (heard : Heard) (ask : Ask) → ask ≡ next_of task (heard_then task history heard) →
    IsRightAfter task history heard ask
right-after task history heard ask is stored blob tool tree legal honest = record {
  fine = subst IsFine (sym is) (honest-fine blob task (tool task.command tree) (heard_then task history heard) honest);
  clean = λ outcome origin done. done-clean tool blob task tree stored (heard_then task history heard) outcome origin legal honest (sym is ∙ done);
}

pub sound-after : (task : Task) (history : List Turn) (heard : Heard) (ask : Ask) → ask ≡ next_of task (heard_then task history heard) →
    IsSoundAfter task history heard ask
sound-after task history heard ask is stored outcome origin legal done =
    done-sound task stored (heard_then task history heard) outcome origin legal (sym is ∙ done)
