use Rattle.std.proofs.Common.{length}
use Rattle.rx_blobs.specs.Uploads.{IsWithin}
use Rattle.rx_blobs.proofs.blobs.find_blob.Given as goal

abbrev pub invariant-loop-blob : goal.invariant-loop-blob
invariant-loop-blob l = IsWithin l.left l.fn.blobs

abbrev pub decreases-loop-blob : goal.decreases-loop-blob
decreases-loop-blob l = length l.left
