use Rattle.std.proofs.Common.{◌≡◌, drop}
use Rattle.rx_cppflags.specs.Variables.{first_variable}
use Rattle.rx_cppflags.proofs.variables.first_variable.Given as goal

abbrev pub invariant-loop-pair : goal.invariant-loop-pair
invariant-loop-pair l = first_variable (drop l.pair-index l.environment) ≡ first_variable l.environment
