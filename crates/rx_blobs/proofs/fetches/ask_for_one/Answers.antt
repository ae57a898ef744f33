use Rattle.std.proofs.Common.{◌∙◌, ◌++◌, ◌∷◌, [], List, ℕ, Ok, Err, ap}
use Rattle.rx_exec_messages.specs.declared.exchanges.Exchange.TheVariants as exchanges
use Rattle.rx_exec_messages.proofs.ExchangedLemmas.{one-exchange}
use Rattle.rx_blobs.specs.Fetches.{IsFetch}
use Rattle.rx_blobs.proofs.FetchLemmas.{stream-failed, stream-gave}
use Rattle.rx_blobs.proofs.fetches.ask_for_one.Goals as goal

pub returns-in-Ok-read_stream-clause-exchanged : goal.returns-in-Ok-read_stream-clause-exchanged
returns-in-Ok-read_stream-clause-exchanged g c =
    let text = c.in-Ok-read_stream.text in
    let texts = c.from_vec.ensures ∙ c.push_reserved.ensures.items ∙ ap (λ (before : List (List ℕ)). before ++ text ∷ []) c.in-Ok.ensures.items in
    one-exchange g.C.Caller (IsFetch (c.args.digest.now ∷ []) (Ok c.from_vec.result)) c.args.caller.now c.read_stream.new.self
    (exchanges.ReadStream c.args.digest.now (Ok text)) c.read_stream.result c.in-Ok-read_stream.ensures.told c.read_stream.ensures.stays c.read_stream.ensures.cause
    (rw texts (stream-gave c.args.digest.now text))

pub returns-in-Err-clause-exchanged : goal.returns-in-Err-clause-exchanged
returns-in-Err-clause-exchanged g c =
    one-exchange g.C.Caller (IsFetch (c.args.digest.now ∷ []) (Err c.of_stream.result)) c.args.caller.now c.read_stream.new.self
    (exchanges.ReadStream c.args.digest.now (Err c.in-Err.fault)) c.read_stream.result c.in-Err.ensures.told c.read_stream.ensures.stays c.read_stream.ensures.cause
    (rw c.of_stream.ensures (stream-failed c.args.digest.now c.in-Err.fault))
