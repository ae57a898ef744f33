use Rattle.std.proofs.Common.{◌≡◌, drop}
use Rattle.rx_scan.specs.Ways.{over_among}
use Rattle.rx_scan.proofs.ways.over_index.Given as goal

abbrev pub invariant-loop-dir : goal.invariant-loop-dir
invariant-loop-dir l = over_among l.files l.dirs ≡ over_among l.files (drop l.dir-index l.dirs)
