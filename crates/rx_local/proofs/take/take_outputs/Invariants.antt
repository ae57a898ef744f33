use Rattle.std.proofs.Common.{◌≡◌, ◌≤◌, ◌++◌, drop, map}
use Rattle.std.specs.Prelude.{IfSome, None}
use Rattle.rx_world.specs.Files.{cut_files}
use Rattle.rx_local.specs.Local.{first_missing}
use Rattle.rx_local.proofs.take.take_outputs.Given as goal

-- what is taken and what is left are the whole, and nothing that was taken is missing
abbrev pub invariant-loop-path : goal.invariant-loop-path
invariant-loop-path g l =
    let left = drop l.path-index l.outputs in
    record {
      paths : map (λ f. f.path) l.files.items ++ left ≡ l.outputs;
      taken : IfSome (g.B.Bench.tree l.fn.bench) (λ tree. l.files.items ++ cut_files left tree.files ≡ cut_files l.outputs tree.files);
      missing : IfSome (g.B.Bench.tree l.fn.bench) (λ tree. first_missing left tree.files ≡ first_missing l.outputs tree.files);
      same : g.B.Bench.tree l.bench ≡ g.B.Bench.tree l.fn.bench;
      runs : g.B.Bench.runs l.bench ≡ g.B.Bench.runs l.fn.bench;
      failed : g.B.Bench.failed_at l.fn.bench ≡ None → g.B.Bench.failed_at l.bench ≡ None;
      later : g.B.Bench.faults l.fn.bench ≤ g.B.Bench.faults l.bench;
    }
