use Rattle.std.proofs.Common.{length}
use Rattle.rx_blobs.specs.Uploads.{IsCollecting}
use Rattle.rx_blobs.proofs.blobs.collect.Given as goal

abbrev pub invariant-loop-digest : goal.invariant-loop-digest
invariant-loop-digest g l = IsCollecting g.W.World g.S.Sources l.fn.sources l.sources l.fn.blobs l.left l.fn.wanted l.rest l.named.items

abbrev pub decreases-loop-digest : goal.decreases-loop-digest
decreases-loop-digest g l = length l.rest
