use Rattle.std.proofs.Common.{◌≡◌, ◌++◌, map, take}
use Rattle.rx_scan.proofs.path_lists.with_paths.Given as goal

abbrev pub invariant-loop-item : goal.invariant-loop-item
invariant-loop-item g l = l.paths ≡ l.fn.paths ++ map g.T.HasPath.place (take l.item-index l.items)
