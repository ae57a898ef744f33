use Rattle.rx_hpack.proofs.integer.+groups.Given as goal

abbrev pub decreases-groups : goal.decreases-groups
decreases-groups l = l.left
