use Rattle.rx_core.proofs.Staying.{step-stays}
use Rattle.rx_core.proofs.laws.every_step.Goals as goal

pub returns : goal.returns
returns g c = record { kept = step-stays g.R.RemoteHistory.rules }
