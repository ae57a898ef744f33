use Rattle.std.proofs.Common.{◌≡◌, ◌≤◌, drop}
use Rattle.rx_base.specs.Told.{Told}
use Rattle.rx_world.specs.Trees.{tree_with_directories}
use Rattle.rx_local.proofs.stage.make_directories.Given as goal

-- the directories that are left make of the tree now what all of them make of the old one
abbrev pub invariant-loop-path : goal.invariant-loop-path
invariant-loop-path g l = record {
  tree : Told (g.B.Bench.tree l.fn.bench) (g.B.Bench.tree l.bench) (λ x y. tree_with_directories (drop l.path-index l.directories) y ≡ tree_with_directories l.directories x);
  runs : g.B.Bench.runs l.bench ≡ g.B.Bench.runs l.fn.bench;
  failed : g.B.Bench.failed_at l.bench ≡ g.B.Bench.failed_at l.fn.bench;
  later : g.B.Bench.faults l.fn.bench ≤ g.B.Bench.faults l.bench;
}
