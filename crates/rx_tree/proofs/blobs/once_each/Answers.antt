use Rattle.rx_tree.proofs.BlobLemmas.{members, no_repeats}
use Rattle.rx_tree.proofs.blobs.once_each.Goals as goal

pub returns-clause-members : goal.returns-clause-members
returns-clause-members c = rw c.from_vec.ensures (members _ _ _ c.in_ok-sort.ensures.permutation c.dedup.ensures.filtered)

pub returns-clause-once : goal.returns-clause-once
returns-clause-once c = rw c.from_vec.ensures (no_repeats _ _ c.in_ok-sort.ensures.sorted c.dedup.ensures.filtered)
