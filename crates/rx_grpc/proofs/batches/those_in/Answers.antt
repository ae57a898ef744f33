use Rattle.std.proofs.Common.{sym, ◌∙◌}
use Rattle.std.specs.BTreeSet.{contains}
use Rattle.rx_base.specs.Digests.{by_digest}
use Rattle.rx_grpc.proofs.BatchLemmas.{those-more, those-same}
use Rattle.rx_grpc.proofs.batches.those_in.Goals as goal
use Rattle.rx_grpc.proofs.batches.those_in.Goals.{then-contains+in_ok-push, else-contains}

pub loop-digest-preserved : goal.loop-digest-preserved
loop-digest-preserved c = elim c.if-contains.branch [
  | then-contains+in_ok-push w ↦ rw (w.those-is, w.in_ok-push.ensures.ok)
      (those-more (contains by_digest c.args.set.now) c.args.digests.now c.loop-digest.those c.loop-digest.digest-index _ c.loop-digest-test.true c.loop-digest.invariant
      (sym c.contains.ensures ∙ w.if-contains.true))
  | else-contains w ↦ rw w.those-is
      (those-same (contains by_digest c.args.set.now) c.args.digests.now c.loop-digest.those c.loop-digest.digest-index _ c.loop-digest-test.true c.loop-digest.invariant
      (sym c.contains.ensures ∙ w.if-contains.false))
]
