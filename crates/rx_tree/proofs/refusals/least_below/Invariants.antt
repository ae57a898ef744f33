use Rattle.rx_tree.specs.Refusals.{by_bytes}
use Rattle.rx_tree.specs.Search.{IsLeastOr, HasBelow, place}
use Rattle.rx_tree.proofs.refusals.least_below.Given as goal

abbrev pub invariant-loop-entry : goal.invariant-loop-entry
invariant-loop-entry l = IsLeastOr by_bytes (HasBelow l.entries l.path l.entry-index) (place l.least)
