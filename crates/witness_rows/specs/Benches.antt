-- The tree of a bench, kept or lost.
use Rattle.rx_world.specs.declared.trees.Tree.{Tree}
use Rattle.witness_rows.specs.declared.benches.QuietBench.{QuietBench}
use Rattle.witness_rows.specs.declared.benches.QuietBench.TheVariants.{Kept, Lost}
use Rattle.witness_rows.specs.Shown.{with_steps}

abbrev pub tree_in : QuietBench → Tree
tree_in (Kept bench) = bench.tree
tree_in (Lost shown) = with_steps shown.steps shown.base.value
