use Rattle.std.proofs.Common.{take}
use Rattle.rx_scan.specs.Inputs.{HasListed}
use Rattle.rx_scan.specs.Lists.{Learns}
use Rattle.rx_scan.proofs.inputs.list_all.Given as goal

abbrev pub invariant-loop-root : goal.invariant-loop-root
invariant-loop-root g l = Learns g.W.World g.S.Sources l.fn.sources l.sources l.fn.sights l.sights (λ scene. HasListed scene l.fn.files (take l.root-index l.roots) l.files)
