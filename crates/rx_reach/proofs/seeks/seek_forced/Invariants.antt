use Rattle.std.proofs.Common.{take}
use Rattle.rx_reach.specs.Progress.{KeepsKnown, Seeks, Stays}
use Rattle.rx_reach.specs.Scans.{Scans}
use Rattle.std.specs.Prelude.{flat_map}
use Rattle.rx_reach.specs.Searches.{forced_tries}
use Rattle.rx_reach.proofs.seeks.seek_forced.Given as goal

abbrev pub invariant-loop-name : goal.invariant-loop-name
invariant-loop-name g l = record {
  scans : Scans g.W.World g.S.Sources l.fn.sources l.sources l.fn.sights l.sights (λ scene. Seeks scene l.search.source (flat_map (forced_tries l.search) (take l.name-index l.names)) l.fn.progress l.progress);
  stays : Stays l.fn.progress l.progress;
  known : KeepsKnown l.fn.sights l.sights l.search.source l.fn.progress l.progress;
}
