use Rattle.rx_codec.proofs.SliceLemmas.{join_more}
use Rattle.rx_codec.proofs.chunks.join.Goals as goal

pub loop-piece-preserved : goal.loop-piece-preserved
loop-piece-preserved c = join_more _ _ _ _ _ c.loop-piece-test.true c.loop-piece.invariant c.in_ok-extend_from_slice.ensures.items
