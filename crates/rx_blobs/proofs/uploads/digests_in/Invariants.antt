use Rattle.std.proofs.Common.{◌≡◌, take}
use Rattle.rx_blobs.specs.Uploads.{digests_of_blobs}
use Rattle.rx_blobs.proofs.uploads.digests_in.Given as goal

abbrev pub invariant-loop-blob : goal.invariant-loop-blob
invariant-loop-blob l = l.digests ≡ digests_of_blobs (take l.blob-index l.blobs)
