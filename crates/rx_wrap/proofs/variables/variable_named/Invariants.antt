use Rattle.std.proofs.Common.{◌≡◌, drop}
use Rattle.rx_wrap.specs.Variables.{variable_named}
use Rattle.rx_wrap.proofs.variables.variable_named.Given as goal

abbrev pub invariant-loop-variable : goal.invariant-loop-variable
invariant-loop-variable l = variable_named (drop l.variable-index l.variables) l.name ≡ variable_named l.variables l.name
