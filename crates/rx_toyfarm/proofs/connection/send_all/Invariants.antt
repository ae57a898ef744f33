use Rattle.std.proofs.Common.{length}
use Rattle.rx_toyfarm.proofs.LinkLemmas.{IsSending}
use Rattle.rx_toyfarm.proofs.connection.send_all.Given as goal

abbrev pub invariant-loop-left : goal.invariant-loop-left
invariant-loop-left g l = IsSending (g.L.Link.rule l.fn.link) (g.L.Link.rule l.link) (g.L.Link.faults l.fn.link) (g.L.Link.faults l.link) (g.L.Link.ended l.fn.link) (g.L.Link.ended l.link)

abbrev pub decreases-loop-left : goal.decreases-loop-left
decreases-loop-left g l = length l.left
