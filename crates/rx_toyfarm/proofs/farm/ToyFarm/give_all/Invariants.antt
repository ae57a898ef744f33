use Rattle.std.proofs.Common.{◌≡◌, map, take}
use Rattle.rx_base.specs.Digests.{digest_of}
use Rattle.rx_toyfarm.proofs.farm.ToyFarm.give_all.Given as goal

abbrev pub invariant-loop-digest : goal.invariant-loop-digest
invariant-loop-digest l = map digest_of l.texts ≡ take l.digest-index l.digests
