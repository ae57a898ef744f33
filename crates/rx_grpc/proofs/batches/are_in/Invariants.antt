use Rattle.std.proofs.Common.{◌≡◌, true, take}
use Rattle.std.specs.BTreeSet.{contains}
use Rattle.std.specs.List.{list_all}
use Rattle.rx_base.specs.Digests.{by_digest}
use Rattle.rx_grpc.proofs.batches.are_in.Given as goal

abbrev pub invariant-loop-digest : goal.invariant-loop-digest
invariant-loop-digest l = list_all (contains by_digest l.set) (take l.digest-index l.digests) ≡ true
