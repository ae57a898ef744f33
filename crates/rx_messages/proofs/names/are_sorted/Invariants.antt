use Rattle.std.proofs.Common.{◌≡◌, ◌≤◌, ◌-◌, drop, map, length}
use Rattle.rx_messages.specs.Names.{are_sorted}
use Rattle.rx_messages.proofs.names.are_sorted.Given as goal

abbrev pub invariant-loop-i : goal.invariant-loop-i
invariant-loop-i g l = record {
  last_is : l.last ≡ length l.entries - 1;
  below : l.i ≤ l.last;
  so_far : are_sorted (map g.T.Entry.name l.entries) ≡ are_sorted (drop l.i (map g.T.Entry.name l.entries));
}

abbrev pub decreases-loop-i : goal.decreases-loop-i
decreases-loop-i g l = l.last - l.i
