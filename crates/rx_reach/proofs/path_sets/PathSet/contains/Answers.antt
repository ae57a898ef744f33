use Rattle.std.proofs.Common.{sym}
use Rattle.rx_reach.proofs.SetLemmas.{set-contains}
use Rattle.rx_reach.proofs.path_sets.PathSet.contains.Goals as goal

pub returns : goal.returns
returns c = rw (sym c.self.view_is) (set-contains c.self.inside.paths c.args.path.now c.contains.result c.contains.ensures)
