use Rattle.std.proofs.Common.{◌≡◌, map, take}
use Rattle.rx_grpc.specs.Questions.{update_of}
use Rattle.rx_grpc.proofs.asks.updates_of.Given as goal

abbrev pub invariant-loop-blob : goal.invariant-loop-blob
invariant-loop-blob l = l.updates.items ≡ map update_of (take l.blob-index l.blobs)
