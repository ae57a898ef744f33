use Rattle.rx_blobs.proofs.UploadLists.{made-none, made-push}
use Rattle.blob_rows.proofs.copies.copies_of.Goals as goal

pub loop-init : goal.loop-init
loop-init c = rw c.new-blobs.ensures made-none

pub loop-preserved : goal.loop-preserved
loop-preserved c = rw c.in-Ok.ensures.ok (made-push _ _ c.loop.invariant tt)
