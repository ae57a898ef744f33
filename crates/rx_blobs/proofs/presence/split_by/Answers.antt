use Rattle.rx_blobs.specs.Uploads.{digests_of_blobs}
use Rattle.std.proofs.Common.{take}
use Rattle.rx_blobs.proofs.UploadLists.{split-more}
use Rattle.rx_blobs.proofs.presence.split_by.Goals as goal

pub loop-blob-preserved : goal.loop-blob-preserved
loop-blob-preserved c =
    split-more c.args.blobs.now c.loop-blob.blob-index c.blob-item.result _ _ c.loop-blob-test.true c.blob-item.is
    (rw c.digest-digest.ensures at (c.in-Ok.ensures (digests_of_blobs (take c.loop-blob.blob-index c.args.blobs.now)) c.loop-blob.invariant))
