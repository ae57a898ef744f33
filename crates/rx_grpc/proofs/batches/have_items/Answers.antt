use Rattle.std.proofs.Common.{sym, ◌∙◌}
use Rattle.std.specs.Prelude.{is_some}
use Rattle.std.specs.BTreeMap.{get}
use Rattle.rx_base.specs.Digests.{by_digest}
use Rattle.rx_base.specs.declared.digests.Digest.{Digest}
use Rattle.rx_grpc.proofs.BatchLemmas.{all-more, none-fails}
use Rattle.rx_grpc.proofs.batches.have_items.Goals as goal

pub returns-then-not-contains_key : goal.returns-then-not-contains_key
returns-then-not-contains_key c =
    none-fails (λ (digest : Digest). is_some (get by_digest c.args.firsts.now digest)) c.args.digests.now c.loop-digest.digest-index _ c.loop-digest-test.true
    (sym c.contains_key.ensures ∙ c.if-not-contains_key.true)

pub loop-digest-preserved : goal.loop-digest-preserved
loop-digest-preserved c =
    all-more (λ (digest : Digest). is_some (get by_digest c.args.firsts.now digest)) c.args.digests.now c.loop-digest.digest-index _ c.loop-digest-test.true c.loop-digest.invariant
    (sym c.contains_key.ensures ∙ c.if-not-contains_key.false)
