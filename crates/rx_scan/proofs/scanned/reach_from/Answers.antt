use Rattle.rx_scan.proofs.NoReach.{none-digests, none-known, none-reached, none-seen, none-sorted}
use Rattle.rx_scan.proofs.scanned.reach_from.Goals as goal

pub returns-in-None-clause-ok : goal.returns-in-None-clause-ok
returns-in-None-clause-ok g c = none-reached _ _ _ _ c.args.search.now c.nothing_reached.result c.in-None.is c.nothing_reached.ensures

pub returns-in-None-clause-sorted : goal.returns-in-None-clause-sorted
returns-in-None-clause-sorted g c = none-sorted c.nothing_reached.result c.nothing_reached.ensures

pub returns-in-None-clause-digests : goal.returns-in-None-clause-digests
returns-in-None-clause-digests g c = λ honest. none-digests g.W.World.content c.nothing_reached.result c.nothing_reached.ensures

pub returns-in-None-clause-seen : goal.returns-in-None-clause-seen
returns-in-None-clause-seen g c = none-seen c.args.sights.now c.nothing_reached.result c.nothing_reached.ensures

pub returns-in-None-clause-known : goal.returns-in-None-clause-known
returns-in-None-clause-known g c = none-known c.args.sights.now c.nothing_reached.result c.nothing_reached.ensures
