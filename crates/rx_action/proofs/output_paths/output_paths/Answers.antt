use Rattle.rx_base.proofs.PathsSorted.{sorted_is}
use Rattle.rx_action.proofs.output_paths.output_paths.Goals as goal

pub returns : goal.returns
returns c =
    rw (c.from_vec.ensures, ← c.in_ok-paths.ensures) (sorted_is _ _ _ c.in_ok-sort.ensures.permutation c.in_ok-sort.ensures.sorted c.dedup.ensures.filtered)
