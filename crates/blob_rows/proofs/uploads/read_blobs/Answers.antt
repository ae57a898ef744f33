use Rattle.rx_blobs.proofs.UploadLists.{made-none, made-push}
use Rattle.blob_rows.proofs.uploads.read_blobs.Goals as goal

pub loop-text-init : goal.loop-text-init
loop-text-init c = rw c.new-blobs.ensures made-none

pub loop-text-preserved : goal.loop-text-preserved
loop-text-preserved c = rw c.in-Ok.ensures.ok (made-push _ _ c.loop-text.invariant c.in_ok-blob.ensures)
