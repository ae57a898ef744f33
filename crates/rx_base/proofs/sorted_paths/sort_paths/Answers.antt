use Rattle.rx_base.proofs.PathsSorted.{ascending, members, sorted_is}
use Rattle.rx_base.proofs.sorted_paths.sort_paths.Goals as goal

pub returns-clause-sorted : goal.returns-clause-sorted
returns-clause-sorted c =
    rw (c.from_vec.ensures, ← c.into_vec-paths.ensures) (sorted_is _ _ _ c.in_ok-sort.ensures.permutation c.in_ok-sort.ensures.sorted c.dedup.ensures.filtered)

pub returns-clause-ascending : goal.returns-clause-ascending
returns-clause-ascending c = rw c.from_vec.ensures (ascending _ _ c.in_ok-sort.ensures.sorted c.dedup.ensures.filtered)

pub returns-clause-members : goal.returns-clause-members
returns-clause-members c = rw (c.from_vec.ensures, ← c.into_vec-paths.ensures) (members _ _ _ c.in_ok-sort.ensures.permutation c.dedup.ensures.filtered)
