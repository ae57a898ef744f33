use Rattle.std.proofs.Common.{◌≡◌, true, take}
use Rattle.std.specs.BTreeSet.{contains}
use Rattle.std.specs.List.{list_all}
use Rattle.std.specs.Map.{keys_of}
use Rattle.rx_base.specs.Digests.{by_digest}
use Rattle.rx_grpc.proofs.batches.items_are_in.Given as goal

abbrev pub invariant-loop-item : goal.invariant-loop-item
invariant-loop-item l = list_all (contains by_digest l.set) (keys_of (take l.item-index l.items)) ≡ true
