use Rattle.rx_hpack.proofs.WriteLemmas.{Writes}
use Rattle.rx_hpack.proofs.integer.write_groups.Given as goal

abbrev pub invariant-loop-number : goal.invariant-loop-number
invariant-loop-number l = Writes l.fn.out.items l.fn.number l.out.items l.number

abbrev pub decreases-loop-number : goal.decreases-loop-number
decreases-loop-number l = l.number
