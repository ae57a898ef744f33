use Rattle.std.proofs.Common.{◌≡◌}
use Rattle.rx_grpc.specs.Writes.{pieces}
use Rattle.rx_grpc.proofs.uploads.offsets_of.Given as goal

abbrev pub invariant-loop-piece : goal.invariant-loop-piece
invariant-loop-piece l = l.offsets.items ≡ pieces l.piece
