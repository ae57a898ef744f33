use Rattle.std.proofs.Common.{length}
use Rattle.rx_grpc.proofs.WireLemmas.{IsSending}
use Rattle.rx_grpc.proofs.transfer.send_all.Given as goal

abbrev pub invariant-loop-left : goal.invariant-loop-left
invariant-loop-left g l = IsSending (g.L.Link.wire l.fn.link) (g.L.Link.wire l.link) (g.L.Link.rule l.fn.link) (g.L.Link.rule l.link) (g.L.Link.ended l.fn.link) (g.L.Link.ended l.link) (g.L.Link.faults l.fn.link) (g.L.Link.faults l.link) l.fn.bytes l.left

abbrev pub decreases-loop-left : goal.decreases-loop-left
decreases-loop-left g l = length l.left
