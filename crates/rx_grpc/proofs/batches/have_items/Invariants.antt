use Rattle.std.proofs.Common.{◌≡◌, true, take}
use Rattle.std.specs.Prelude.{is_some}
use Rattle.std.specs.BTreeMap.{get}
use Rattle.std.specs.List.{list_all}
use Rattle.rx_base.specs.Digests.{by_digest}
use Rattle.rx_grpc.proofs.batches.have_items.Given as goal

abbrev pub invariant-loop-digest : goal.invariant-loop-digest
invariant-loop-digest l = list_all (λ digest. is_some (get by_digest l.firsts digest)) (take l.digest-index l.digests) ≡ true
