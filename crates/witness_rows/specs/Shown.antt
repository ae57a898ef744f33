-- Trees that contracts alone see, by what was put into them.
use Rattle.std.specs.Prelude.{List, [], ◌∷◌}
use Rattle.rx_world.specs.declared.trees.Tree.{Tree}
use Rattle.rx_world.specs.Trees.{tree_with_directory, tree_with_file}
use Rattle.witness_rows.specs.declared.shown.Step.{Step}
use Rattle.witness_rows.specs.declared.shown.Step.TheVariants.{Dir, File}

-- a tree with one thing more
abbrev pub with_step : Step → Tree → Tree
with_step (Dir path) tree = tree_with_directory path.value tree
with_step (File path bytes executable) tree = tree_with_file (record { path = path.value; bytes = bytes; executable = executable }) tree

-- the same of one after the other
abbrev pub with_steps : List Step → Tree → Tree
with_steps [] tree = tree
with_steps (step ∷ steps) tree = with_steps steps (with_step step tree)
