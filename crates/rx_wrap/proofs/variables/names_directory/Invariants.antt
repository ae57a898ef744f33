use Rattle.std.proofs.Common.{◌≡◌, drop}
use Rattle.rx_base.specs.Texts.{texts}
use Rattle.rx_wrap.specs.Variables.{names_directory}
use Rattle.rx_wrap.proofs.variables.names_directory.Given as goal

abbrev pub invariant-loop-name : goal.invariant-loop-name
invariant-loop-name l = names_directory (texts (drop l.name-index l.names)) ≡ names_directory (texts l.names)
