use Rattle.std.proofs.Common.{take}
use Rattle.rx_reach.specs.Scans.{Scans}
use Rattle.rx_reach.specs.Scenes.{Always, Sees}
use Rattle.rx_scan.specs.Inputs.{IsLooked}
use Rattle.rx_scan.proofs.inputs.look_all.Given as goal

abbrev pub invariant-loop-input : goal.invariant-loop-input
invariant-loop-input g l = record {
  scans : Scans g.W.World g.S.Sources l.fn.sources l.sources l.fn.sights l.sights Always;
  seen : Sees l.sights (λ scene. IsLooked scene (take l.input-index l.inputs) l.looked);
}
