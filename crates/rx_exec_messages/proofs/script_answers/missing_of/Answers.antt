use Rattle.rx_exec_messages.proofs.ScriptLemmas.{part-keeps, part-passes}
use Rattle.rx_exec_messages.proofs.script_answers.missing_of.Goals as goal
use Rattle.rx_exec_messages.proofs.script_answers.missing_of.Goals.{else-contains, then-contains+in_ok-push}

pub loop-digest-preserved : goal.loop-digest-preserved
loop-digest-preserved c = elim c.if-contains.branch [
  | then-contains+in_ok-push w ↦ rw (w.missing-is, w.in_ok-push.ensures.ok) (part-keeps c.loop-digest.missing c.args.digests.now c.loop-digest.digest-index _ c.loop-digest-test.true c.loop-digest.invariant)
  | else-contains w ↦ rw w.missing-is (part-passes c.loop-digest.missing c.args.digests.now c.loop-digest.digest-index c.loop-digest-test.true c.loop-digest.invariant)
]
