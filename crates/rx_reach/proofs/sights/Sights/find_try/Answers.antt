use Rattle.std.proofs.Common.{sym}
use Rattle.rx_reach.proofs.TryLemmas.{found-right}
use Rattle.rx_reach.proofs.sights.Sights.find_try.Goals as goal

pub returns : goal.returns
returns c =
    rw (sym c.self.view_is)
    (found-right c.self.inside.looks.entries c.self.inside.tries.by_dir (record { dir = c.args.dir.now; name = c.args.name.now }) c.find.result c.find.ensures c.self.invariant.1)
