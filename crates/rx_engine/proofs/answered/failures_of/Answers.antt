use Rattle.rx_engine.proofs.Failures.{failures-more, tellable-more}
use Rattle.rx_engine.proofs.answered.failures_of.Goals as goal

pub loop-end-preserved : goal.loop-end-preserved
loop-end-preserved c = record {
  failures = failures-more c.args.ends.now c.loop-end.end-index c.end-item.result _ _ c.loop-end-test.true c.end-item.is c.loop-end.invariant.failures c.in_ok-push_failure.ensures.failures;
  tellable = tellable-more c.args.ends.now c.loop-end.end-index c.end-item.result c.loop-end-test.true c.end-item.is c.loop-end.invariant.tellable c.in_ok-push_failure.ensures.tellable;
}
