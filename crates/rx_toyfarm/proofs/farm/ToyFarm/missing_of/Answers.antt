use Rattle.rx_exec_messages.proofs.ScriptLemmas.{part-keeps, part-passes}
use Rattle.rx_toyfarm.proofs.farm.ToyFarm.missing_of.Goals as goal
use Rattle.rx_toyfarm.proofs.farm.ToyFarm.missing_of.Goals.{else-not-has, then-not-has+in_ok-push}

pub loop-digest-preserved : goal.loop-digest-preserved
loop-digest-preserved c = elim c.if-not-has.branch [
  | then-not-has+in_ok-push w ↦ rw (w.missing-is, w.in_ok-push.ensures.ok) (part-keeps c.loop-digest.missing c.args.digests.now c.loop-digest.digest-index _ c.loop-digest-test.true c.loop-digest.invariant)
  | else-not-has w ↦ rw w.missing-is (part-passes c.loop-digest.missing c.args.digests.now c.loop-digest.digest-index c.loop-digest-test.true c.loop-digest.invariant)
]
