use Rattle.rx_base.proofs.PathAgain.{read_of-path}
use Rattle.rx_base.proofs.PathShape.{IsPath-same}
use Rattle.rx_base.proofs.paths.RelPath.as_str.Goals as goal

pub returns-clause-again : goal.returns-clause-again
returns-clause-again c = read_of-path c.args.self.now (IsPath-same _ _ c.self.view_is c.self.invariant)
