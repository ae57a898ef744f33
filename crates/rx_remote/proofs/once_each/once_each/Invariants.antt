use Rattle.rx_remote.specs.Actions.{AreCollected}
use Rattle.rx_remote.proofs.once_each.once_each.Given as goal

abbrev pub invariant-loop-blob : goal.invariant-loop-blob
invariant-loop-blob l = AreCollected l.yielded l.first.blobs.items l.first.seen.keys
