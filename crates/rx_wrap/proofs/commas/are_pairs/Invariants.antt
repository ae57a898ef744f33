use Rattle.std.proofs.Common.{◌≡◌, drop}
use Rattle.std.specs.List.{list_all}
use Rattle.rx_base.specs.Texts.{texts}
use Rattle.rx_wrap.specs.Cuts.{equals_sign, has}
use Rattle.rx_wrap.proofs.commas.are_pairs.Given as goal

abbrev pub invariant-loop-part : goal.invariant-loop-part
invariant-loop-part l = list_all (has equals_sign) (texts (drop l.part-index l.parts)) ≡ list_all (has equals_sign) (texts l.parts)
