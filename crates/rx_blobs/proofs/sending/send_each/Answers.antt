use Rattle.std.proofs.Common.{[], ◌∷◌, Ok, Err}
use Rattle.rx_base.proofs.Members.{Contains-head}
use Rattle.rx_exec_messages.specs.Calls.{digests_of}
use Rattle.rx_exec_messages.specs.declared.exchanges.Exchange.TheVariants as exchanges
use Rattle.rx_exec_messages.proofs.ExchangedLemmas.{one-exchange}
use Rattle.rx_blobs.specs.Faults.{of_write}
use Rattle.rx_blobs.specs.Uploads.{IsFailedSending, IsSent}
use Rattle.rx_blobs.proofs.UploadLemmas.{cause-later, part-named, sending-fails, sending-goes-on, write-cause, write-failed, wrote}
use Rattle.rx_blobs.proofs.sending.send_each.Goals as goal

pub returns-in-Err-clause-exchanged : goal.returns-in-Err-clause-exchanged
returns-in-Err-clause-exchanged g c =
    let all = digests_of c.args.blobs.now in
    let blob = c.in-Some.blob.now in
    let inv = rw c.in-Some.ensures.cases.0 at c.loop-blob.invariant in
    let there = part-named g.C.Caller _ _ all all (blob.digest ∷ []) (digests_of c.in-Some.others.now) inv.sent blob.digest (Contains-head blob.digest []) in
    rw c.of_write.ensures
    (sending-fails g.C.Caller c.args.caller.now c.loop-blob.caller c.write_stream.new.self all all (blob.digest ∷ digests_of c.in-Some.others.now) all (of_write blob.digest c.in-Err.fault) inv.sent
    (one-exchange g.C.Caller (IsFailedSending all (of_write blob.digest c.in-Err.fault)) c.loop-blob.caller c.write_stream.new.self
    (exchanges.WriteStream blob.digest blob.bytes (Err c.in-Err.fault)) c.write_stream.result (rw c.as_slice.ensures at c.in-Err.ensures.told) c.write_stream.ensures.stays c.write_stream.ensures.cause
    (write-failed all blob.digest blob.bytes c.in-Err.fault there inv.own.0)) (λ x m. m))

pub returns-in-Err-clause-cause : goal.returns-in-Err-clause-cause
returns-in-Err-clause-cause g c =
    let all = digests_of c.args.blobs.now in
    let blob = c.in-Some.blob.now in
    let inv = rw c.in-Some.ensures.cases.0 at c.loop-blob.invariant in
    let there = part-named g.C.Caller _ _ all all (blob.digest ∷ []) (digests_of c.in-Some.others.now) inv.sent blob.digest (Contains-head blob.digest []) in
    rw c.of_write.ensures
    (cause-later _ _ _ all all (of_write blob.digest c.in-Err.fault) inv.sent.exchanged.exchanged.later (λ x m. m)
    (write-cause _ _ all blob.digest c.in-Err.fault c.in-Err.ensures.cause.failed there))

pub loop-blob-preserved : goal.loop-blob-preserved
loop-blob-preserved g c =
    let all = digests_of c.args.blobs.now in
    let blob = c.in-Some.blob.now in
    let inv = rw c.in-Some.ensures.cases.0 at c.loop-blob.invariant in
    let there = part-named g.C.Caller _ _ all all (blob.digest ∷ []) (digests_of c.in-Some.others.now) inv.sent blob.digest (Contains-head blob.digest []) in
    record {
      sent = sending-goes-on g.C.Caller c.args.caller.now c.loop-blob.caller c.write_stream.new.self all all (blob.digest ∷ []) (digests_of c.in-Some.others.now) all inv.sent
          (one-exchange g.C.Caller (IsSent (blob.digest ∷ []) all) c.loop-blob.caller c.write_stream.new.self
          (exchanges.WriteStream blob.digest blob.bytes (Ok tt)) c.write_stream.result (rw c.as_slice.ensures at c.in_default-write_stream.ensures.told) c.write_stream.ensures.stays c.write_stream.ensures.cause
          (wrote all blob.digest blob.bytes there inv.own.0)) (λ x m. m);
      own = inv.own.1;
    }
