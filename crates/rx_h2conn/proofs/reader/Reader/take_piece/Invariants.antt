use Rattle.std.proofs.Common.{length}
use Rattle.rx_h2conn.specs.Reader.{reading_of}
use Rattle.rx_h2conn.proofs.PieceLemmas.{IsFeeding}
use Rattle.rx_h2conn.proofs.reader.Reader.take_piece.Given as goal

abbrev pub invariant-loop-left : goal.invariant-loop-left
invariant-loop-left l = IsFeeding (reading_of l.fn.self) (reading_of l.self) l.self.lacking l.fn.piece l.left

abbrev pub decreases-loop-left : goal.decreases-loop-left
decreases-loop-left l = length l.left
