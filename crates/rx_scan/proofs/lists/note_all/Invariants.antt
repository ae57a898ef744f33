use Rattle.std.proofs.Common.{take}
use Rattle.rx_world.specs.Sources.{given_all}
use Rattle.rx_reach.specs.Sights.{Notes}
use Rattle.rx_scan.proofs.lists.note_all.Given as goal

abbrev pub invariant-loop-item : goal.invariant-loop-item
invariant-loop-item l = Notes l.fn.sights l.sights (given_all (take l.item-index l.found))
