use Rattle.std.proofs.Common.{◌≡◌, ◌++◌, map, take}
use Rattle.rx_action.specs.ActionBlobs.{blob_digest}
use Rattle.rx_action.proofs.action_blobs.with_blobs.Given as goal

abbrev pub invariant-loop-blob : goal.invariant-loop-blob
invariant-loop-blob l = l.digests.items ≡ l.fn.digests.items ++ map blob_digest (take l.blob-index l.blobs)
