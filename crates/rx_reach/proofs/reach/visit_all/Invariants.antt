use Rattle.std.proofs.Common.{◌≤◌, ◌+◌, length}
use Rattle.rx_reach.specs.Explored.{AreSeen, HaveDigests}
use Rattle.rx_reach.specs.Progress.{AreApart}
use Rattle.rx_reach.specs.Scans.{Scans}
use Rattle.rx_reach.specs.Sights.{AreKnownAt}
use Rattle.rx_reach.proofs.NextLemmas.{ReadEach}
use Rattle.rx_reach.proofs.reach.visit_all.Given as goal

abbrev pub invariant-loop : goal.invariant-loop
invariant-loop g l = record {
  scans : Scans g.W.World g.S.Sources l.fn.sources l.sources l.fn.sights l.sights (λ scene. ReadEach scene l.search l.counter l.fn.progress l.progress);
  apart : AreApart l.progress;
  count : length l.progress.read ≤ length l.fn.progress.read + l.counter;
  bound : l.counter ≤ 20001;
  seen : AreSeen l.fn.sights l.fn.progress.read → AreSeen l.sights l.progress.read;
  known : AreKnownAt l.fn.sights l.fn.progress.hard → AreKnownAt l.sights l.progress.hard;
  honest : g.W.World.stamps_honest → HaveDigests g.W.World.content l.fn.progress.read → HaveDigests g.W.World.content l.progress.read;
}
