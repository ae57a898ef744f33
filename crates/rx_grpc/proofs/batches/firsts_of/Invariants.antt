use Rattle.std.proofs.Common.{◌≡◌}
use Rattle.std.specs.BTreeMap.{get}
use Rattle.rx_base.specs.Digests.{by_digest}
use Rattle.rx_base.specs.declared.digests.Digest.{Digest}
use Rattle.rx_grpc.specs.Batches.{first_for}
use Rattle.rx_grpc.proofs.batches.firsts_of.Given as goal

abbrev pub invariant-loop-digest : goal.invariant-loop-digest
invariant-loop-digest l = (q : Digest) → get by_digest l.firsts q ≡ first_for l.yielded q
