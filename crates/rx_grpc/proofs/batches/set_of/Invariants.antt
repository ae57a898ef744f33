use Rattle.std.proofs.Common.{◌≡◌, take}
use Rattle.std.specs.BTreeSet.{contains}
use Rattle.rx_base.specs.Digests.{by_digest}
use Rattle.rx_base.specs.declared.digests.Digest.{Digest}
use Rattle.rx_grpc.specs.Batches.{has}
use Rattle.rx_grpc.proofs.batches.set_of.Given as goal

abbrev pub invariant-loop-digest : goal.invariant-loop-digest
invariant-loop-digest l = (q : Digest) → contains by_digest l.set q ≡ has (take l.digest-index l.digests) q
