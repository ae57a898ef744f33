use Rattle.std.proofs.Common.{◌≡◌, map}
use Rattle.rx_action.specs.Commands.{variable_of}
use Rattle.rx_action.proofs.commands.variables_of.Given as goal

abbrev pub invariant-loop-pair : goal.invariant-loop-pair
invariant-loop-pair l = l.variables ≡ map variable_of l.yielded
