use Rattle.std.proofs.Common.{◌≡◌, map}
use Rattle.rx_reach.specs.Sights.{found_of}
use Rattle.rx_reach.proofs.sights.list_looks.Given as goal

abbrev pub invariant-loop-path : goal.invariant-loop-path
invariant-loop-path l = l.view ≡ map found_of l.yielded
