use Rattle.std.proofs.Common.{◌≡◌, map}
use Rattle.rx_action.specs.Commands.{property_of}
use Rattle.rx_action.proofs.commands.properties_of.Given as goal

abbrev pub invariant-loop-pair : goal.invariant-loop-pair
invariant-loop-pair l = l.properties ≡ map property_of l.yielded
