use Rattle.rx_core.proofs.Outcomes.{all-clean}
use Rattle.rx_core.proofs.RunLemmas.{every-run}
use Rattle.rx_core.proofs.laws.every_run.Goals as goal

pub returns : goal.returns
returns g c =
    let tool = g.W.World.tool in
    let rules = g.R.RemoteHistory.rules in
    let lawful = g.met.R.RemoteHistory.lawful in
    let holds = every-run tool rules lawful in record {
      holds = holds;
      clean = λ files state reached n a there honest.
          all-clean tool rules lawful a ((holds files state reached).each n a there) honest;
    }
