use Rattle.std.proofs.Common.{◌≡◌, ◌≤◌, drop}
use Rattle.rx_base.specs.Told.{Told}
use Rattle.rx_world.specs.Trees.{with_parents}
use Rattle.rx_local.proofs.stage.make_parents.Given as goal

-- the outputs that are left make of the tree now what all of them make of the old one
abbrev pub invariant-loop-path : goal.invariant-loop-path
invariant-loop-path g l = record {
  tree : Told (g.B.Bench.tree l.fn.bench) (g.B.Bench.tree l.bench) (λ x y. with_parents (drop l.path-index l.outputs) y ≡ with_parents l.outputs x);
  runs : g.B.Bench.runs l.bench ≡ g.B.Bench.runs l.fn.bench;
  failed : g.B.Bench.failed_at l.bench ≡ g.B.Bench.failed_at l.fn.bench;
  later : g.B.Bench.faults l.fn.bench ≤ g.B.Bench.faults l.bench;
}
