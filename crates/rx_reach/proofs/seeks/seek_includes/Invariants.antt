use Rattle.std.proofs.Common.{take}
use Rattle.rx_reach.specs.Progress.{KeepsKnown, Seeks, Stays}
use Rattle.rx_reach.specs.Scans.{Scans}
use Rattle.std.specs.Prelude.{flat_map}
use Rattle.rx_lex.specs.declared.found.Include.{Include}
use Rattle.rx_lex.specs.Found.{name_view}
use Rattle.rx_reach.specs.Searches.{tries_of}
use Rattle.rx_reach.proofs.seeks.seek_includes.Given as goal

abbrev pub invariant-loop-include : goal.invariant-loop-include
invariant-loop-include g l = record {
  scans : Scans g.W.World g.S.Sources l.fn.sources l.sources l.fn.sights l.sights (λ scene. Seeks scene l.file (flat_map (λ (include : Include). tries_of l.search l.file (name_view include)) (take l.include-index l.list)) l.fn.progress l.progress);
  stays : Stays l.fn.progress l.progress;
  known : KeepsKnown l.fn.sights l.sights l.file l.fn.progress l.progress;
}
