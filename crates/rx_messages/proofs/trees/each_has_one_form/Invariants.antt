use Rattle.std.proofs.Common.{◌≡◌, drop}
use Rattle.rx_base.specs.Texts.{texts as slices}
use Rattle.rx_messages.specs.Trees.{each_has_one_form}
use Rattle.rx_messages.proofs.trees.each_has_one_form.Given as goal

abbrev pub invariant-loop-i : goal.invariant-loop-i
invariant-loop-i l = each_has_one_form (slices l.pieces) l.directories ≡ each_has_one_form (drop l.i (slices l.pieces)) (drop l.i l.directories)
