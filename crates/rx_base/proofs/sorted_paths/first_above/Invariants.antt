use Rattle.rx_base.proofs.SortedSearch.{NoUpper}
use Rattle.rx_base.proofs.sorted_paths.first_above.Given as goal

abbrev pub invariant-loop-at : goal.invariant-loop-at
invariant-loop-at l = NoUpper l.paths l.path l.at
