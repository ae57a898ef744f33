use Rattle.std.proofs.Common.{◌++◌}
use Rattle.rx_blobs.specs.Uploads.{digests_of_blobs}
use Rattle.rx_blobs.proofs.FetchLemmas.{split-whole}
use Rattle.rx_blobs.proofs.UploadLemmas.{cause-later, cause-own, part-named, sending-fails, sending-goes-on, sending-stops}
use Rattle.rx_blobs.proofs.UploadLists.{digests-within}
use Rattle.rx_blobs.proofs.UploadReads.{read-fails, read-stops, read-then}
use Rattle.rx_blobs.proofs.sending.send_missing.Goals as goal

pub returns-in-Err-send-clause-exchanged : goal.returns-in-Err-send-clause-exchanged
returns-in-Err-send-clause-exchanged g c =
    let missing = c.args.missing.now in
    let part = c.split_at.result.0.now in
    let later = c.split_at.result.1.now in
    let whole = split-whole _ c.loop-first.rest.now part later c.split_at.ensures.front c.split_at.ensures.back in
    let sent = rw whole at c.loop-first.invariant.sent in
    sending-fails g.C.Caller c.args.caller.now c.loop-first.caller c.send.new.caller missing missing (part ++ later) part c.in-Err-send.fault sent
    (rw (c.as_slice.ensures, c.in-Ok.ensures.digests) at c.in-Err-send.ensures.exchanged)
    (part-named g.C.Caller _ _ missing missing part later sent)

pub returns-in-Err-send-clause-cause : goal.returns-in-Err-send-clause-cause
returns-in-Err-send-clause-cause g c =
    let inv = c.loop-first.invariant in
    cause-later _ _ _ c.split_at.result.0.now (digests_of_blobs c.args.blobs.now) c.in-Err-send.fault inv.sent.exchanged.exchanged.later
    (λ d m. digests-within c.loop-first.left.now c.args.blobs.now inv.left_in d (c.in-Ok.ensures.among d m))
    (rw (c.as_slice.ensures, c.in-Ok.ensures.digests) at c.in-Err-send.ensures.cause)

pub returns-in-Err-send-clause-read : goal.returns-in-Err-send-clause-read
returns-in-Err-send-clause-read g c =
    let inv = c.loop-first.invariant in
    read-stops g.W.World g.S.Sources c.args.sources.now c.collect.new.sources c.args.blobs.now c.in-Err-send.fault
    (read-then g.W.World g.S.Sources c.args.sources.now c.loop-first.sources c.collect.new.sources c.args.blobs.now c.loop-first.left.now c.in-Ok.some inv.read c.in-Ok.ensures.read inv.left_in)
    c.in-Err-send.ensures.call

pub returns-in-Err-clause-read : goal.returns-in-Err-clause-read
returns-in-Err-clause-read g c =
    let inv = c.loop-first.invariant in
    read-fails g.W.World g.S.Sources c.args.sources.now c.loop-first.sources c.collect.new.sources c.args.blobs.now c.loop-first.left.now c.in-Err.fault inv.read c.in-Err.ensures.read inv.left_in

pub returns-in-Err-clause-exchanged : goal.returns-in-Err-clause-exchanged
returns-in-Err-clause-exchanged g c =
    sending-stops g.C.Caller c.args.caller.now c.loop-first.caller c.args.missing.now c.args.missing.now c.loop-first.rest.now c.in-Err.fault c.loop-first.invariant.sent c.in-Err.ensures.fault

pub returns-in-Err-clause-cause : goal.returns-in-Err-clause-cause
returns-in-Err-clause-cause g c = cause-own _ _ (digests_of_blobs c.args.blobs.now) c.in-Err.fault c.in-Err.ensures.fault

pub loop-first-preserved : goal.loop-first-preserved
loop-first-preserved g c =
    let missing = c.args.missing.now in
    let part = c.split_at.result.0.now in
    let later = c.split_at.result.1.now in
    let whole = split-whole _ c.loop-first.rest.now part later c.split_at.ensures.front c.split_at.ensures.back in
    let inv = c.loop-first.invariant in
    let sent = rw whole at inv.sent in
    record {
      sent = sending-goes-on g.C.Caller c.args.caller.now c.loop-first.caller c.send.new.caller missing missing part later part sent
          (rw (c.as_slice.ensures, c.in-Ok.ensures.digests) at c.in_default-send.ensures.exchanged)
          (part-named g.C.Caller _ _ missing missing part later sent);
      read = read-then g.W.World g.S.Sources c.args.sources.now c.loop-first.sources c.collect.new.sources c.args.blobs.now c.loop-first.left.now c.in-Ok.some inv.read c.in-Ok.ensures.read inv.left_in;
      left_in = λ b m. inv.left_in b (c.in-Ok.ensures.others b m);
    }
