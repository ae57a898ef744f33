use Rattle.std.proofs.Common.{◌≡◌, map, take}
use Rattle.rx_scan.specs.Digests.{seen_file}
use Rattle.rx_reach.specs.Explored.{HaveDigests}
use Rattle.rx_reach.specs.Scans.{Scans}
use Rattle.rx_reach.specs.Scenes.{Always}
use Rattle.rx_scan.proofs.digests.with_digests.Given as goal

abbrev pub invariant-loop-file : goal.invariant-loop-file
invariant-loop-file g l = record {
  scans : Scans g.W.World g.S.Sources l.fn.sources l.sources l.fn.sights l.sights Always;
  same : map seen_file l.inputs ≡ take l.file-index l.files;
  honest : g.W.World.stamps_honest → HaveDigests g.W.World.content l.known → HaveDigests g.W.World.content l.inputs;
}
