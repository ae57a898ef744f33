use Rattle.std.proofs.Common.{◌∙◌, ◌++◌, List, ap, refl}
use Rattle.rx_base.specs.declared.digests.Digest.{Digest}
use Rattle.rx_blobs.specs.declared.blob_fault.BlobFault.TheVariants as faults
use Rattle.rx_blobs.specs.Uploads.{digests_of_blobs}
use Rattle.rx_blobs.proofs.FetchLemmas.{split-whole}
use Rattle.rx_blobs.proofs.UploadGroups.{group-within, nothing-both, uploading-fails, uploading-goes-on, uploading-starts, uploading-stops}
use Rattle.rx_blobs.proofs.UploadLemmas.{cause-later}
use Rattle.rx_blobs.proofs.UploadLists.{digests-within, made-within}
use Rattle.rx_blobs.proofs.UploadReads.{read-fails, read-stops}
use Rattle.rx_blobs.proofs.uploads.upload.Goals as goal

pub loop-keeper-preserved : goal.loop-keeper-preserved
loop-keeper-preserved g c =
    let group = c.split_at.result.0.now in
    let others = c.split_at.result.1.now in
    let whole = split-whole _ c.loop-keeper.rest.now group others c.split_at.ensures.front c.split_at.ensures.back in
    let items = c.in-Ok-append.ensures.items ∙ ap (λ (more : List Digest). c.loop-keeper.left_out.items ++ more) c.into_vec-known.ensures in
    rw items
    (record {
      uploaded = uploading-goes-on g.W.World g.C.Caller g.S.Sources c.args.caller.now c.loop-keeper.caller c.upload_group.new.caller c.args.sources.now c.loop-keeper.sources c.upload_group.new.sources
          c.args.what.now.blobs.now group others c.loop-keeper.left_out.items c.in-Ok.known (rw whole at c.loop-keeper.invariant.uploaded)
          c.in-Ok.ensures.part c.in-Ok.ensures.exchanged c.in-Ok.ensures.read;
      fresh = λ f. nothing-both c.loop-keeper.left_out.items c.in-Ok.known (c.loop-keeper.invariant.fresh f) (c.in-Ok.ensures.fresh f);
    })

pub upload_group-requires-clause-made : goal.upload_group-requires-clause-made
upload_group-requires-clause-made g c =
    let group = c.split_at.result.0.now in
    let others = c.split_at.result.1.now in
    let whole = split-whole _ c.loop-keeper.rest.now group others c.split_at.ensures.front c.split_at.ensures.back in
    made-within group c.args.what.now.blobs.now
    (group-within g.W.World g.C.Caller g.S.Sources _ _ _ _ c.args.what.now.blobs.now group others c.loop-keeper.left_out.items (rw whole at c.loop-keeper.invariant.uploaded))
    c.requires.named

pub returns-in_default-clause-exchanged : goal.returns-in_default-clause-exchanged
returns-in_default-clause-exchanged g c =
    let group = c.split_at.result.0.now in
    let others = c.split_at.result.1.now in
    let whole = split-whole _ c.loop-keeper.rest.now group others c.split_at.ensures.front c.split_at.ensures.back in
    let more = uploading-goes-on g.W.World g.C.Caller g.S.Sources c.args.caller.now c.loop-keeper.caller c.upload_group.new.caller c.args.sources.now c.loop-keeper.sources c.upload_group.new.sources
    c.args.what.now.blobs.now group others c.loop-keeper.left_out.items c.in-Ok.known (rw whole at c.loop-keeper.invariant.uploaded)
    c.in-Ok.ensures.part c.in-Ok.ensures.exchanged c.in-Ok.ensures.read in
    uploading-stops g.W.World g.C.Caller g.S.Sources c.args.caller.now c.upload_group.new.caller c.args.sources.now c.upload_group.new.sources c.args.what.now.blobs.now others _ more

pub returns-in_default-clause-read : goal.returns-in_default-clause-read
returns-in_default-clause-read g c =
    let group = c.split_at.result.0.now in
    let others = c.split_at.result.1.now in
    let whole = split-whole _ c.loop-keeper.rest.now group others c.split_at.ensures.front c.split_at.ensures.back in
    let more = uploading-goes-on g.W.World g.C.Caller g.S.Sources c.args.caller.now c.loop-keeper.caller c.upload_group.new.caller c.args.sources.now c.loop-keeper.sources c.upload_group.new.sources
    c.args.what.now.blobs.now group others c.loop-keeper.left_out.items c.in-Ok.known (rw whole at c.loop-keeper.invariant.uploaded)
    c.in-Ok.ensures.part c.in-Ok.ensures.exchanged c.in-Ok.ensures.read in
    read-stops g.W.World g.S.Sources c.args.sources.now c.upload_group.new.sources c.args.what.now.blobs.now faults.NoMemory more.read tt

pub returns-in-Err-clause-exchanged : goal.returns-in-Err-clause-exchanged
returns-in-Err-clause-exchanged g c =
    uploading-fails g.W.World g.C.Caller g.S.Sources c.args.caller.now c.loop-keeper.caller c.upload_group.new.caller c.args.sources.now c.loop-keeper.sources
    c.args.what.now.blobs.now c.loop-keeper.rest.now c.loop-keeper.left_out.items c.in-Err.fault c.loop-keeper.invariant.uploaded c.in-Err.ensures.exchanged

pub returns-in-Err-clause-cause : goal.returns-in-Err-clause-cause
returns-in-Err-clause-cause g c =
    let blobs = c.args.what.now.blobs.now in
    let group = c.split_at.result.0.now in
    let others = c.split_at.result.1.now in
    let whole = split-whole _ c.loop-keeper.rest.now group others c.split_at.ensures.front c.split_at.ensures.back in
    let inv = c.loop-keeper.invariant.uploaded in
    cause-later _ _ _ (digests_of_blobs group) (digests_of_blobs blobs) c.in-Err.fault inv.exchanged.exchanged.later
    (digests-within group blobs (group-within g.W.World g.C.Caller g.S.Sources _ _ _ _ blobs group others c.loop-keeper.left_out.items (rw whole at inv)))
    c.in-Err.ensures.cause

pub returns-in-Err-clause-read : goal.returns-in-Err-clause-read
returns-in-Err-clause-read g c =
    let blobs = c.args.what.now.blobs.now in
    let group = c.split_at.result.0.now in
    let others = c.split_at.result.1.now in
    let whole = split-whole _ c.loop-keeper.rest.now group others c.split_at.ensures.front c.split_at.ensures.back in
    let inv = c.loop-keeper.invariant.uploaded in
    read-fails g.W.World g.S.Sources c.args.sources.now c.loop-keeper.sources c.upload_group.new.sources blobs group c.in-Err.fault inv.read c.in-Err.ensures.read
    (group-within g.W.World g.C.Caller g.S.Sources _ _ _ _ blobs group others c.loop-keeper.left_out.items (rw whole at inv))

pub loop-keeper-init : goal.loop-keeper-init
loop-keeper-init g c =
    rw c.new-left_out.ensures.items
    (record { uploaded = uploading-starts g.W.World g.C.Caller g.S.Sources c.args.caller.now c.args.sources.now c.args.what.now.blobs.now; fresh = λ f. refl })
