use Rattle.std.proofs.Common.{take}
use Rattle.rx_reach.specs.Progress.{KeepsKnown, Seeks, Stays}
use Rattle.rx_reach.specs.Scans.{Scans}
use Rattle.std.specs.Prelude.{flat_map}
use Rattle.rx_reach.specs.Searches.{walked_tries}
use Rattle.rx_reach.proofs.seeks.seek_walked.Given as goal

abbrev pub invariant-loop-text : goal.invariant-loop-text
invariant-loop-text g l = record {
  scans : Scans g.W.World g.S.Sources l.fn.sources l.sources l.fn.sights l.sights (λ scene. Seeks scene l.search.source (flat_map (walked_tries l.search) (take l.text-index l.texts)) l.fn.progress l.progress);
  stays : Stays l.fn.progress l.progress;
  known : KeepsKnown l.fn.sights l.sights l.search.source l.fn.progress l.progress;
}
