use Rattle.std.proofs.Common.{take}
use Rattle.rx_reach.specs.Progress.{KeepsKnown, Seeks, Stays}
use Rattle.rx_reach.specs.Scans.{Scans}
use Rattle.rx_reach.specs.Searches.{tries_under}
use Rattle.rx_reach.proofs.seeks.seek_in.Given as goal

abbrev pub invariant-loop-dir : goal.invariant-loop-dir
invariant-loop-dir g l = record {
  scans : Scans g.W.World g.S.Sources l.fn.sources l.sources l.fn.sights l.sights (λ scene. Seeks scene l.blamed (tries_under (take l.dir-index l.dirs) l.name) l.fn.progress l.progress);
  stays : Stays l.fn.progress l.progress;
  known : KeepsKnown l.fn.sights l.sights l.blamed l.fn.progress l.progress;
}
