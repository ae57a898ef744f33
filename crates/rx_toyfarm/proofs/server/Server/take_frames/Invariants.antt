use Rattle.std.proofs.Common.{length}
use Rattle.rx_toyfarm.proofs.server.Server.take_frames.Given as goal

abbrev pub decreases-loop-frame : goal.decreases-loop-frame
decreases-loop-frame l = length l.left
