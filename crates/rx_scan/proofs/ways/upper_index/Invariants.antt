use Rattle.std.proofs.Common.{◌≡◌, drop}
use Rattle.rx_scan.specs.Ways.{upper_among}
use Rattle.rx_scan.proofs.ways.upper_index.Given as goal

abbrev pub invariant-loop-path : goal.invariant-loop-path
invariant-loop-path l = upper_among l.files l.paths ≡ upper_among l.files (drop l.path-index l.paths)
