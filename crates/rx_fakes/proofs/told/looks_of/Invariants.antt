use Rattle.std.proofs.Common.{◌≡◌, take}
use Rattle.rx_world.specs.Sources.{given_all}
use Rattle.rx_fakes.proofs.told.looks_of.Given as goal

abbrev pub invariant-loop-item : goal.invariant-loop-item
invariant-loop-item l = l.looks.items ≡ given_all (take l.item-index l.found)
