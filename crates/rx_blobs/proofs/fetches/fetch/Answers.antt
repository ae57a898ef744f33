use Rattle.std.proofs.Common.{◌∙◌, ◌++◌, List, ℕ, ap}
use Rattle.rx_blobs.proofs.FetchLemmas.{cause-of-part, fetching-failed, fetching-more, fetching-same, fetching-unkept, split-whole}
use Rattle.rx_blobs.proofs.fetches.fetch.Goals as goal

pub returns-in_default-append-clause-exchanged : goal.returns-in_default-append-clause-exchanged
returns-in_default-append-clause-exchanged g c =
    let whole = split-whole _ c.loop-first.rest.now c.split_at.result.0.now c.split_at.result.1.now c.split_at.ensures.front c.split_at.ensures.back in
    fetching-unkept g.W.World g.C.Caller c.args.caller.now c.fetch_part.new.caller c.args.digests.now c.split_at.result.1.now
    (c.loop-first.all.items ++ c.in-Ok-Some.texts)
    (fetching-more g.W.World g.C.Caller c.args.caller.now c.loop-first.caller c.fetch_part.new.caller c.args.digests.now c.split_at.result.0.now c.split_at.result.1.now
    c.loop-first.all.items c.in-Ok-Some.texts (rw whole at c.loop-first.invariant) (rw c.in-Ok-Some.field-0-is at c.in-Ok-Some.ensures.texts) (rw c.in-Ok-Some.field-0-is at c.in-Ok-Some.ensures.honest) (rw c.in-Ok-Some.field-0-is at c.in-Ok-Some.ensures.exchanged))

pub loop-first-preserved-in-Ok-Some : goal.loop-first-preserved-in-Ok-Some
loop-first-preserved-in-Ok-Some g c =
    let whole = split-whole _ c.loop-first.rest.now c.split_at.result.0.now c.split_at.result.1.now c.split_at.ensures.front c.split_at.ensures.back in
    let items = c.in-Ok.ensures.items ∙ ap (λ (more : List (List ℕ)). c.loop-first.all.items ++ more) c.into_vec-texts.ensures in
    rw items
    (fetching-more g.W.World g.C.Caller c.args.caller.now c.loop-first.caller c.fetch_part.new.caller c.args.digests.now c.split_at.result.0.now c.split_at.result.1.now
    c.loop-first.all.items c.in-Ok-Some.texts (rw whole at c.loop-first.invariant) (rw c.in-Ok-Some.field-0-is at c.in-Ok-Some.ensures.texts) (rw c.in-Ok-Some.field-0-is at c.in-Ok-Some.ensures.honest) (rw c.in-Ok-Some.field-0-is at c.in-Ok-Some.ensures.exchanged))

pub loop-first-preserved : goal.loop-first-preserved
loop-first-preserved g c =
    fetching-same g.W.World g.C.Caller c.args.caller.now c.loop-first.caller c.fetch_part.new.caller c.args.digests.now c.loop-first.rest.now c.loop-first.all.items
    c.loop-first.invariant (rw c.in-Ok-None.field-0-is at c.in-Ok-None.ensures.exchanged)

pub returns-in-Err-clause-cause : goal.returns-in-Err-clause-cause
returns-in-Err-clause-cause g c =
    let whole = split-whole _ c.loop-first.rest.now c.split_at.result.0.now c.split_at.result.1.now c.split_at.ensures.front c.split_at.ensures.back in
    cause-of-part (g.C.Caller.faults c.args.caller.now) (g.C.Caller.faults c.loop-first.caller) (g.C.Caller.faults c.fetch_part.new.caller) _
    c.split_at.result.0.now c.split_at.result.1.now c.args.digests.now c.in-Err.fault c.loop-first.invariant.exchanged.exchanged.later
    (rw whole at c.loop-first.invariant.hashed) c.in-Err.ensures.cause

pub returns-in-Err-clause-exchanged : goal.returns-in-Err-clause-exchanged
returns-in-Err-clause-exchanged g c =
    let whole = split-whole _ c.loop-first.rest.now c.split_at.result.0.now c.split_at.result.1.now c.split_at.ensures.front c.split_at.ensures.back in
    fetching-failed g.W.World g.C.Caller c.args.caller.now c.loop-first.caller c.fetch_part.new.caller c.args.digests.now c.split_at.result.0.now c.split_at.result.1.now
    c.loop-first.all.items c.in-Err.fault (rw whole at c.loop-first.invariant) c.in-Err.ensures.exchanged
