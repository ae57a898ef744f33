use Rattle.rx_base.proofs.PathsSorted.{sorted_is}
use Rattle.rx_messages.proofs.names.sort_once.Goals as goal

pub returns : goal.returns
returns c = sorted_is _ _ _ c.in_ok-sort.ensures.permutation c.in_ok-sort.ensures.sorted c.dedup.ensures.filtered
