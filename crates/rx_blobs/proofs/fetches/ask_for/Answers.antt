use Rattle.std.proofs.Common.{◌∙◌, Ok, Err, None, Some, sym}
use Rattle.rx_exec_messages.specs.declared.exchanges.Exchange.TheVariants as exchanges
use Rattle.rx_exec_messages.proofs.ExchangedLemmas.{one-exchange}
use Rattle.rx_blobs.specs.Fetches.{IsPart}
use Rattle.rx_blobs.proofs.FetchLemmas.{read-failed, read-gave, read-gave-nothing}
use Rattle.rx_blobs.proofs.fetches.ask_for.Goals as goal

pub returns-then-is_without_batches-clause-exchanged : goal.returns-then-is_without_batches-clause-exchanged
returns-then-is_without_batches-clause-exchanged g c =
    one-exchange g.C.Caller (IsPart c.args.digests.now (Ok None)) c.args.caller.now c.read.new.self
    (exchanges.Read c.args.digests.now (Err c.in-Err.fault)) c.read.result c.in-Err.ensures.told c.read.ensures.stays c.read.ensures.cause
    (read-gave-nothing c.args.digests.now c.in-Err.fault)

pub returns-in-Ok-clause-exchanged : goal.returns-in-Ok-clause-exchanged
returns-in-Ok-clause-exchanged g c =
    one-exchange g.C.Caller (IsPart c.args.digests.now (Ok (Some c.in-Ok.texts))) c.args.caller.now c.read.new.self
    (exchanges.Read c.args.digests.now (Ok c.in-Ok.texts)) c.read.result c.in-Ok.ensures.told c.read.ensures.stays c.read.ensures.cause
    (read-gave c.args.digests.now c.in-Ok.texts)

pub returns-else-is_without_batches-clause-exchanged : goal.returns-else-is_without_batches-clause-exchanged
returns-else-is_without_batches-clause-exchanged g c =
    one-exchange g.C.Caller (IsPart c.args.digests.now (Err c.of_batch.result)) c.args.caller.now c.read.new.self
    (exchanges.Read c.args.digests.now (Err c.in-Err.fault)) c.read.result c.in-Err.ensures.told c.read.ensures.stays c.read.ensures.cause
    (rw c.of_batch.ensures (read-failed c.args.digests.now c.in-Err.fault (sym c.is_without_batches.ensures ∙ c.if-is_without_batches.false)))
