use Rattle.std.proofs.Common.{◌≡◌, ◌++◌, drop}
use Rattle.rx_base.specs.Texts.{texts}
use Rattle.rx_wrap.specs.Variables.{variables_named}
use Rattle.rx_wrap.proofs.variables.variables_named.Given as goal

abbrev pub invariant-loop-name : goal.invariant-loop-name
invariant-loop-name l = l.found ++ variables_named l.variables (texts (drop l.name-index l.names)) ≡ variables_named l.variables (texts l.names)
