use Rattle.std.proofs.Common.{◌≡◌}
use Rattle.rx_reach.proofs.path_sets.PathSet.into_items.Given as goal

abbrev pub invariant-loop-path : goal.invariant-loop-path
invariant-loop-path l = l.items ≡ l.yielded
