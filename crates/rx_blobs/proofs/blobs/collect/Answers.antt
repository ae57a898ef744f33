use Rattle.std.proofs.Common.{[], ◌∷◌}
use Rattle.rx_blobs.specs.declared.blob_fault.BlobFault.TheVariants as faults
use Rattle.rx_blobs.proofs.UploadReads.{collecting-goes-on, collecting-starts, one-within, read-fails, read-stops, read-then}
use Rattle.rx_blobs.proofs.blobs.collect.Goals as goal

pub loop-digest-init : goal.loop-digest-init
loop-digest-init g c = rw c.new-named.ensures.items (collecting-starts g.W.World g.S.Sources c.args.sources.now c.args.blobs.now c.args.wanted.now)

pub returns-in_default-push-clause-read : goal.returns-in_default-push-clause-read
returns-in_default-push-clause-read g c =
    let inv = c.loop-digest.invariant in
    let found = c.in-Some-find_blob.found in
    read-stops g.W.World g.S.Sources c.args.sources.now c.bytes_of.new.sources c.args.blobs.now faults.NoMemory
    (read-then g.W.World g.S.Sources c.args.sources.now c.loop-digest.sources c.bytes_of.new.sources c.args.blobs.now (found.blob.now ∷ []) c.in-Ok.bytes inv.read c.in-Ok.ensures.read
    (one-within c.args.blobs.now found.blob.now (inv.left_in found.blob.now c.in-Some-find_blob.ensures.there))) tt

pub returns-in-Err-clause-read : goal.returns-in-Err-clause-read
returns-in-Err-clause-read g c =
    let inv = c.loop-digest.invariant in
    let found = c.in-Some-find_blob.found in
    read-fails g.W.World g.S.Sources c.args.sources.now c.loop-digest.sources c.bytes_of.new.sources c.args.blobs.now (found.blob.now ∷ []) c.in-Err.fault inv.read c.in-Err.ensures.read
    (one-within c.args.blobs.now found.blob.now (inv.left_in found.blob.now c.in-Some-find_blob.ensures.there))

pub loop-digest-preserved : goal.loop-digest-preserved
loop-digest-preserved g c =
    let inv = rw c.in-Some.ensures.cases.0 at c.loop-digest.invariant in
    let found = c.in-Some-find_blob.found in
    rw c.in-Ok-push.ensures.items
    (collecting-goes-on g.W.World g.S.Sources c.args.sources.now c.loop-digest.sources c.bytes_of.new.sources c.args.blobs.now c.loop-digest.left.now found.others.now
    c.args.wanted.now c.in-Some.later.now c.in-Some.digest.now c.loop-digest.named.items found.blob.now c.in-Ok.bytes c.in-Ok.bytes inv
    c.in-Some-find_blob.ensures.digest c.in-Some-find_blob.ensures.there c.in-Some-find_blob.ensures.others c.in-Ok.ensures.digest c.in-Ok.ensures.read)
