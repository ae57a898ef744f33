use Rattle.std.proofs.Common.{◌≡◌, length, take}
use Rattle.rx_base.specs.Paths.{parts}
use Rattle.rx_base.specs.Texts.{texts}
use Rattle.rx_base.proofs.path_text.parts_of.Given as goal

abbrev pub invariant-loop-part : goal.invariant-loop-part
invariant-loop-part l = texts l.found.items ≡ take (length l.yielded) (parts l.text)
