use Rattle.std.proofs.Common.{◌≡◌, take}
use Rattle.rx_scan.specs.Whole.{without}
use Rattle.rx_scan.proofs.whole.without.Given as goal

abbrev pub invariant-loop-path : goal.invariant-loop-path
invariant-loop-path l = l.left ≡ without (take l.path-index l.paths) l.others
