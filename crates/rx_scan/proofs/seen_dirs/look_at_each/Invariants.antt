use Rattle.std.proofs.Common.{take}
use Rattle.rx_reach.specs.Scans.{Scans}
use Rattle.rx_reach.specs.Scenes.{Always}
use Rattle.rx_reach.specs.Sights.{AreKnownAt}
use Rattle.rx_scan.proofs.seen_dirs.look_at_each.Given as goal

abbrev pub invariant-loop-path : goal.invariant-loop-path
invariant-loop-path g l = record {
  scans : Scans g.W.World g.S.Sources l.fn.sources l.sources l.fn.sights l.sights Always;
  known : AreKnownAt l.sights (take l.path-index l.paths);
}
