use Rattle.std.proofs.Common.{length}
use Rattle.rx_hpack.proofs.BlockLemmas.{SoFar}
use Rattle.rx_hpack.proofs.decoder.decode.Given as goal

abbrev pub invariant-loop-left : goal.invariant-loop-left
invariant-loop-left l = SoFar l.fn.table l.bytes l.list l.table l.left

abbrev pub decreases-loop-left : goal.decreases-loop-left
decreases-loop-left l = length l.left
