use Rattle.std.proofs.Common.{length}
use Rattle.rx_grpc.specs.Seen.{heard_of}
use Rattle.rx_grpc.proofs.ReadLemmas.{IsReading}
use Rattle.rx_grpc.proofs.reader.Reader.take_piece.Given as goal

abbrev pub invariant-loop-left : goal.invariant-loop-left
invariant-loop-left l = IsReading (heard_of l.fn.self) (heard_of l.self) l.self.lacking l.fn.piece l.left

abbrev pub decreases-loop-left : goal.decreases-loop-left
decreases-loop-left l = length l.left
