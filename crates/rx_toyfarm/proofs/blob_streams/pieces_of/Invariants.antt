use Rattle.std.proofs.Common.{length}
use Rattle.rx_toyfarm.proofs.blob_streams.pieces_of.Given as goal

abbrev pub decreases-loop-left : goal.decreases-loop-left
decreases-loop-left l = length l.left
