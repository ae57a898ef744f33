use Rattle.rx_action.proofs.DigestsSorted.{equal_ties, once_is}
use Rattle.rx_action.proofs.action_blobs.sort_once.Goals as goal

pub returns : goal.returns
returns c = rw (c.from_vec.ensures) (once_is _ equal_ties _ _ _ c.in_ok-sort.ensures.permutation c.in_ok-sort.ensures.sorted c.dedup.ensures.filtered)
