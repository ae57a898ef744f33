use Rattle.std.proofs.Common.{◌≡◌, take}
use Rattle.std.specs.Prelude.{filter}
use Rattle.std.specs.BTreeSet.{contains}
use Rattle.rx_base.specs.Digests.{by_digest}
use Rattle.rx_grpc.proofs.batches.those_in.Given as goal

abbrev pub invariant-loop-digest : goal.invariant-loop-digest
invariant-loop-digest l = l.those ≡ filter (contains by_digest l.set) (take l.digest-index l.digests)
