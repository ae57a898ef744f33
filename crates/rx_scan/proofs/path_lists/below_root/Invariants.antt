use Rattle.std.proofs.Common.{◌≡◌, ◌==◌, filter, length, not, take}
use Rattle.rx_scan.proofs.path_lists.below_root.Given as goal

abbrev pub invariant-loop-path : goal.invariant-loop-path
invariant-loop-path l = l.below ≡ filter (λ path. not (length path == 0)) (take l.path-index l.paths)
