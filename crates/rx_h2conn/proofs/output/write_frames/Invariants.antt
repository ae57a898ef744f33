use Rattle.std.proofs.Common.{length}
use Rattle.rx_h2conn.proofs.FrameLemmas.{IsWriting}
use Rattle.rx_h2conn.proofs.output.write_frames.Given as goal

abbrev pub invariant-loop-left : goal.invariant-loop-left
invariant-loop-left l = IsWriting l.fn.out.items l.out.items l.fn.framing l.kind l.flags l.bytes l.left

abbrev pub decreases-loop-left : goal.decreases-loop-left
decreases-loop-left l = length l.left
