use Rattle.std.proofs.Common.{◌≡◌, take}
use Rattle.rx_base.specs.Texts.{texts}
use Rattle.rx_wrap.proofs.commas.copies.Given as goal

abbrev pub invariant-loop-part : goal.invariant-loop-part
invariant-loop-part l = l.copies.items ≡ texts (take l.part-index l.parts)
