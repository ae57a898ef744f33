use Rattle.std.proofs.Common.{◌≡◌, take}
use Rattle.rx_base.proofs.item_list.Items.copy_of.Given as goal

abbrev pub invariant-loop-item : goal.invariant-loop-item
invariant-loop-item g l = l.inner.items ≡ take l.item-index l.items
