use Rattle.std.proofs.Common.{◌≡◌, map, take}
use Rattle.rx_base.specs.Texts.{texts}
use Rattle.rx_wrap.specs.Commas.{pair_of}
use Rattle.rx_wrap.proofs.commas.each_pair.Given as goal

abbrev pub invariant-loop-part : goal.invariant-loop-part
invariant-loop-part l = l.pairs.items ≡ map pair_of (texts (take l.part-index l.parts))
