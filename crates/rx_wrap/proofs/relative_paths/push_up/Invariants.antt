use Rattle.std.proofs.Common.{◌≡◌, ◌++◌, drop, codes, string_bytes}
use Rattle.std.specs.List.{flat_map}
use Rattle.rx_base.specs.Texts.{texts}
use Rattle.rx_wrap.proofs.relative_paths.push_up.Given as goal

abbrev pub invariant-loop-name : goal.invariant-loop-name
invariant-loop-name l = string_bytes l.text ++ flat_map (λ name. codes "/..") (texts (drop l._name-index l.names)) ≡ string_bytes l.initial.text ++ flat_map (λ name. codes "/..") (texts l.names)
