use Rattle.std.proofs.Common.{length}
use Rattle.rx_rows.proofs.text.read_text.Given as goal

abbrev pub decreases-loop-byte : goal.decreases-loop-byte
decreases-loop-byte l = length l.left
