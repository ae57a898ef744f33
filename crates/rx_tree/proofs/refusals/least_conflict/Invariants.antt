use Rattle.rx_tree.specs.Refusals.{by_bytes}
use Rattle.rx_tree.specs.Search.{IsLeastOr, HasNeighbours, is_conflict, place}
use Rattle.rx_tree.proofs.refusals.least_conflict.Given as goal

abbrev pub invariant-loop-i : goal.invariant-loop-i
invariant-loop-i l = IsLeastOr by_bytes (HasNeighbours (is_conflict l.conflict) l.entries l.i) (place l.least)
