use Rattle.rx_reach.proofs.SetLemmas.{adds-end, adds-start, adds-next}
use Rattle.rx_reach.proofs.progress.insert_all.Goals as goal

pub loop-path-init : goal.loop-path-init
loop-path-init c = λ path. adds-start c.args.set.now c.args.paths.now path

pub loop-path-preserved : goal.loop-path-preserved
loop-path-preserved c =
    adds-next c.args.set.now c.loop-path.set c.insert.new.self c.args.paths.now c.loop-path.path-index c.path-item.result c.loop-path-test.true c.path-item.is c.loop-path.invariant c.in_ok-insert.ensures

pub returns-clause-ok : goal.returns-clause-ok
returns-clause-ok c = adds-end c.args.set.now c.loop-path.set c.args.paths.now c.loop-path.path-index c.loop-path-test.false c.loop-path.invariant
