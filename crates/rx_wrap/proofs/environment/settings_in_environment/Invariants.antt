use Rattle.std.proofs.Common.{◌≡◌, ◌++◌, drop}
use Rattle.rx_wrap.specs.Environment.{settings_in}
use Rattle.rx_wrap.proofs.environment.settings_in_environment.Given as goal

abbrev pub invariant-loop-variable : goal.invariant-loop-variable
invariant-loop-variable l = l.settings.items ++ settings_in (drop l.variable-index l.variables) ≡ settings_in l.variables
