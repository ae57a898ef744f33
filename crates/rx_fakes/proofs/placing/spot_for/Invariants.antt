use Rattle.std.proofs.Common.{◌≡◌, ◌++◌, drop, take}
use Rattle.rx_world.specs.Files.{placed_by}
use Rattle.rx_fakes.proofs.placing.spot_for.Given as goal

abbrev pub invariant-loop-at : goal.invariant-loop-at
invariant-loop-at g l =
    placed_by g.T.HasPath.path_of l.item l.items ≡ take l.at l.items ++ placed_by g.T.HasPath.path_of l.item (drop l.at l.items)
