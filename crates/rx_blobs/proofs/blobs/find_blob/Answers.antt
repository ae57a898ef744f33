use Rattle.rx_blobs.proofs.UploadLists.{within-later}
use Rattle.rx_blobs.proofs.blobs.find_blob.Goals as goal

pub returns-then-is_same-clause-others : goal.returns-then-is_same-clause-others
returns-then-is_same-clause-others c =
    within-later c.in-Some.blob.now c.in-Some.others.now c.args.blobs.now (rw c.in-Some.ensures.cases.0 at c.loop-blob.invariant)

pub loop-blob-preserved : goal.loop-blob-preserved
loop-blob-preserved c =
    within-later c.in-Some.blob.now c.in-Some.others.now c.args.blobs.now (rw c.in-Some.ensures.cases.0 at c.loop-blob.invariant)
