use Rattle.std.proofs.Common.{◌≡◌, ◌++◌, drop, string_bytes}
use Rattle.rx_base.specs.Texts.{texts}
use Rattle.rx_wrap.specs.RelativePaths.{down}
use Rattle.rx_wrap.proofs.relative_paths.push_down.Given as goal

abbrev pub invariant-loop-name : goal.invariant-loop-name
invariant-loop-name l = string_bytes l.text ++ down (texts (drop l.name-index l.names)) ≡ string_bytes l.initial.text ++ down (texts l.names)
