use Rattle.std.proofs.Common.{◌≡◌, take}
use Rattle.rx_exec_messages.specs.Calls.{digests_of}
use Rattle.rx_grpc.proofs.asks.digests_of.Given as goal

abbrev pub invariant-loop-blob : goal.invariant-loop-blob
invariant-loop-blob l = l.digests.items ≡ digests_of (take l.blob-index l.blobs)
