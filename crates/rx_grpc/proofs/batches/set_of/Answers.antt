use Rattle.rx_grpc.proofs.BatchLemmas.{set-more}
use Rattle.rx_grpc.proofs.batches.set_of.Goals as goal

pub loop-digest-preserved : goal.loop-digest-preserved
loop-digest-preserved c = λ q. set-more c.args.digests.now c.loop-digest.digest-index _ q _ _ c.loop-digest-test.true (c.loop-digest.invariant q) (c.in_ok-insert.ensures.updates.0 q)
