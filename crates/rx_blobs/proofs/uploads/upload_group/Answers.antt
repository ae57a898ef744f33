use Rattle.std.proofs.Common.{◌∙◌, ◌≤◌, List, Ok, Err, arith, length, refl, sym}
use Rattle.std.proofs.lemmas.List.{length-map}
use Rattle.rx_base.specs.declared.digests.Digest.{Digest}
use Rattle.rx_exec_messages.specs.declared.exchanges.Exchange.TheVariants as exchanges
use Rattle.rx_exec_messages.proofs.ExchangedLemmas.{no-exchange, one-exchange}
use Rattle.rx_blobs.specs.declared.blob_fault.BlobFault.TheVariants as faults
use Rattle.rx_blobs.specs.Faults.{of_ask}
use Rattle.rx_blobs.specs.declared.blobs.Blob.{Blob}
use Rattle.rx_blobs.specs.Uploads.{IsFailedUpload, IsSplit, IsUploaded, digest_of_blob, digests_of_blobs}
use Rattle.rx_blobs.proofs.UploadLemmas.{IsJust, ask-call, ask-failed, group-known, group-sent, group-unsent, nothing-in, stopped-none}
use Rattle.rx_blobs.proofs.UploadReads.{read-none, read-stops}
use Rattle.rx_blobs.proofs.uploads.upload_group.Goals as goal

-- at most as many are asked for as there are
few : (blobs : List Blob) (known asked : List Digest) → length blobs ≤ 20000 → IsSplit (digests_of_blobs blobs) known asked → length asked ≤ 20000
few blobs known asked most split = let same = length-map blobs digest_of_blob in omega (arith, same, most, split.few)

pub returns-in_default-clause-exchanged : goal.returns-in_default-clause-exchanged
returns-in_default-clause-exchanged g c = no-exchange g.C.Caller (IsFailedUpload faults.NoMemory) c.args.caller.now stopped-none

pub returns-then-is_empty-clause-exchanged : goal.returns-then-is_empty-clause-exchanged
returns-then-is_empty-clause-exchanged g c =
    let digests = digests_of_blobs c.args.blobs.now in
    no-exchange g.C.Caller (IsUploaded digests c.in-Ok.parts.known) c.args.caller.now
    (group-known digests c.in-Ok.parts.known c.in-Ok.parts.asked c.in-Ok.ensures.split (nothing-in c.in-Ok.parts.asked (rw c.as_slice-asked.ensures at (sym c.is_empty.ensures ∙ c.if-is_empty.true))))

pub returns-in-Ok-send_missing-clause-exchanged : goal.returns-in-Ok-send_missing-clause-exchanged
returns-in-Ok-send_missing-clause-exchanged g c =
    let asked = c.in-Ok.parts.asked in
    let missing = c.in-Ok-find_missing.missing in
    group-sent g.C.Caller c.args.caller.now c.find_missing.new.self c.send_missing.new.caller (digests_of_blobs c.args.blobs.now) c.in-Ok.parts.known asked missing c.in-Ok.ensures.split
    (few c.args.blobs.now c.in-Ok.parts.known asked c.requires.few c.in-Ok.ensures.split)
    (one-exchange g.C.Caller (IsJust (exchanges.FindMissing asked (Ok missing))) c.args.caller.now c.find_missing.new.self
    (exchanges.FindMissing asked (Ok missing)) c.find_missing.result (rw c.as_slice-asked.ensures at c.in-Ok-find_missing.ensures.told) c.find_missing.ensures.stays c.find_missing.ensures.cause refl)
    (rw c.as_slice-lacks.ensures at c.in-Ok-send_missing.ensures.exchanged)

pub returns-in-Err-send_missing-clause-exchanged : goal.returns-in-Err-send_missing-clause-exchanged
returns-in-Err-send_missing-clause-exchanged g c =
    let asked = c.in-Ok.parts.asked in
    let missing = c.in-Ok-find_missing.missing in
    group-unsent g.C.Caller c.args.caller.now c.find_missing.new.self c.send_missing.new.caller asked missing c.in-Err-send_missing.fault
    (few c.args.blobs.now c.in-Ok.parts.known asked c.requires.few c.in-Ok.ensures.split)
    (one-exchange g.C.Caller (IsJust (exchanges.FindMissing asked (Ok missing))) c.args.caller.now c.find_missing.new.self
    (exchanges.FindMissing asked (Ok missing)) c.find_missing.result (rw c.as_slice-asked.ensures at c.in-Ok-find_missing.ensures.told) c.find_missing.ensures.stays c.find_missing.ensures.cause refl)
    (rw c.as_slice-lacks.ensures at c.in-Err-send_missing.ensures.exchanged)

pub returns-in-Err-clause-exchanged : goal.returns-in-Err-clause-exchanged
returns-in-Err-clause-exchanged g c =
    rw c.of_ask.ensures
    (one-exchange g.C.Caller (IsFailedUpload (of_ask c.in-Err.fault)) c.args.caller.now c.find_missing.new.self
    (exchanges.FindMissing c.in-Ok.parts.asked (Err c.in-Err.fault)) c.find_missing.result (rw c.as_slice-asked.ensures at c.in-Err.ensures.told) c.find_missing.ensures.stays c.find_missing.ensures.cause
    (ask-failed c.in-Ok.parts.asked c.in-Err.fault (few c.args.blobs.now c.in-Ok.parts.known c.in-Ok.parts.asked c.requires.few c.in-Ok.ensures.split)))

pub returns-in-Err-clause-read : goal.returns-in-Err-clause-read
returns-in-Err-clause-read g c =
    rw c.of_ask.ensures
    (read-stops g.W.World g.S.Sources c.args.sources.now c.args.sources.now c.args.blobs.now (of_ask c.in-Err.fault)
    (read-none g.W.World g.S.Sources c.args.sources.now c.args.blobs.now (λ answers. Unit {0}) tt) (ask-call c.in-Err.fault))
