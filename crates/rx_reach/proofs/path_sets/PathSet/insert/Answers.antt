use Rattle.std.proofs.Common.{sym, subst}
use Rattle.rx_reach.specs.PathSets.{Adds}
use Rattle.rx_reach.proofs.SetLemmas.{adds-known, set-adds, set-contains}
use Rattle.rx_reach.proofs.path_sets.PathSet.insert.Goals as goal

pub returns-then-contains : goal.returns-then-contains
returns-then-contains c = rw (sym c.self.view_is) (adds-known c.self.inside.paths.keys c.args.path.now ((set-contains c.self.inside.paths c.args.path.now c.contains.result c.contains.ensures).0 c.if-contains.true))

pub returns : goal.returns
returns c = rw (sym c.self.view_is) (subst (Adds c.self.inside.paths.keys c.insert.new.self.keys) c.in_ok-try_clone.ensures (set-adds c.self.inside.paths c.insert.new.self c.in_ok-try_clone.field-0 c.in_ok-insert.ensures.updates))
