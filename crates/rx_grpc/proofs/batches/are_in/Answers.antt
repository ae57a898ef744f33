use Rattle.std.proofs.Common.{sym, ◌∙◌}
use Rattle.std.specs.BTreeSet.{contains}
use Rattle.rx_base.specs.Digests.{by_digest}
use Rattle.rx_grpc.proofs.BatchLemmas.{all-more, none-fails}
use Rattle.rx_grpc.proofs.batches.are_in.Goals as goal

pub returns-then-not-contains : goal.returns-then-not-contains
returns-then-not-contains c =
    none-fails (contains by_digest c.args.set.now) c.args.digests.now c.loop-digest.digest-index _ c.loop-digest-test.true (sym c.contains.ensures ∙ c.if-not-contains.true)

pub loop-digest-preserved : goal.loop-digest-preserved
loop-digest-preserved c =
    all-more (contains by_digest c.args.set.now) c.args.digests.now c.loop-digest.digest-index _ c.loop-digest-test.true c.loop-digest.invariant (sym c.contains.ensures ∙ c.if-not-contains.false)
