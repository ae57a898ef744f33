use Rattle.std.proofs.Common.{◌∙◌, [], Ok, Err, sym}
use Rattle.rx_exec_messages.specs.Calls.{digests_of}
use Rattle.rx_exec_messages.specs.declared.exchanges.Exchange.TheVariants as exchanges
use Rattle.rx_exec_messages.proofs.ExchangedLemmas.{one-exchange}
use Rattle.rx_blobs.specs.Faults.{of_update}
use Rattle.rx_blobs.specs.Uploads.{IsFailedSending, IsSent}
use Rattle.rx_blobs.proofs.UploadLemmas.{after-none, update-failed, updated, updated-none}
use Rattle.rx_blobs.proofs.sending.send_batch.Goals as goal

pub returns-in-Ok-clause-exchanged : goal.returns-in-Ok-clause-exchanged
returns-in-Ok-clause-exchanged g c =
    let all = digests_of c.args.blobs.now in
    one-exchange g.C.Caller (IsSent all all) c.args.caller.now c.update.new.self
    (exchanges.Update c.args.blobs.now (Ok tt)) c.update.result c.in-Ok.ensures.told c.update.ensures.stays c.update.ensures.cause (updated c.args.blobs.now c.requires)

pub returns-else-is_without_updates-clause-exchanged : goal.returns-else-is_without_updates-clause-exchanged
returns-else-is_without_updates-clause-exchanged g c =
    let all = digests_of c.args.blobs.now in
    rw c.of_update.ensures
    (one-exchange g.C.Caller (IsFailedSending all (of_update c.in-Err.fault)) c.args.caller.now c.update.new.self
    (exchanges.Update c.args.blobs.now (Err c.in-Err.fault)) c.update.result c.in-Err.ensures.told c.update.ensures.stays c.update.ensures.cause
    (update-failed c.args.blobs.now c.in-Err.fault c.requires (sym c.is_without_updates.ensures ∙ c.if-is_without_updates.false)))

pub returns-then-is_without_updates-clause-exchanged : goal.returns-then-is_without_updates-clause-exchanged
returns-then-is_without_updates-clause-exchanged g c =
    let all = digests_of c.args.blobs.now in
    after-none g.C.Caller c.args.caller.now c.update.new.self c.send_each.new.caller all all c.send_each.result
    (one-exchange g.C.Caller (IsSent [] all) c.args.caller.now c.update.new.self
    (exchanges.Update c.args.blobs.now (Err c.in-Err.fault)) c.update.result c.in-Err.ensures.told c.update.ensures.stays c.update.ensures.cause (updated-none c.args.blobs.now c.in-Err.fault c.requires))
    c.send_each.ensures.exchanged
