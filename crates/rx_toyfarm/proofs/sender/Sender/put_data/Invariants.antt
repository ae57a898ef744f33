use Rattle.std.proofs.Common.{length}
use Rattle.rx_toyfarm.proofs.sender.Sender.put_data.Given as goal

abbrev pub decreases-loop-left : goal.decreases-loop-left
decreases-loop-left l = length l.left
