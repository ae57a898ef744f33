use Rattle.rx_hpack.specs.Header.{views}
use Rattle.rx_hpack.proofs.TableLemmas.{Evicts}
use Rattle.rx_hpack.proofs.dynamic_table.evict.Given as goal

abbrev pub invariant-loop-size : goal.invariant-loop-size
invariant-loop-size l = Evicts l.room (views l.fn.entries.items) (views l.entries.items) l.size

abbrev pub decreases-loop-size : goal.decreases-loop-size
decreases-loop-size l = l.size
