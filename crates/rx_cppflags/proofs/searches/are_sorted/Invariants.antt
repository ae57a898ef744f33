use Rattle.rx_cppflags.proofs.SearchLemmas.{Ascends}
use Rattle.rx_cppflags.proofs.searches.are_sorted.Given as goal

abbrev pub invariant-loop-i : goal.invariant-loop-i
invariant-loop-i l = Ascends l.paths l.i
