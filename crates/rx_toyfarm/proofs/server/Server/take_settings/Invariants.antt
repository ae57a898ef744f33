use Rattle.std.proofs.Common.{length}
use Rattle.rx_toyfarm.proofs.server.Server.take_settings.Given as goal

abbrev pub decreases-loop-left : goal.decreases-loop-left
decreases-loop-left l = length l.left
