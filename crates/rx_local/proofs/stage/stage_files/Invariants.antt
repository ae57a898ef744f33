use Rattle.std.proofs.Common.{◌≡◌, ◌≤◌, None, take}
use Rattle.rx_local.specs.Stage.{HasStaged, PutsAll}
use Rattle.rx_local.proofs.stage.stage_files.Given as goal

-- the files up to this one were staged
abbrev pub invariant-loop-file : goal.invariant-loop-file
invariant-loop-file g l = record {
  so_far : HasStaged g.W.World g.S.Sources l.fn.sources l.sources (take l.file-index l.files) (PutsAll (g.B.Bench.tree l.fn.bench) (g.B.Bench.tree l.bench));
  runs : g.B.Bench.runs l.bench ≡ g.B.Bench.runs l.fn.bench;
  failed : g.B.Bench.failed_at l.fn.bench ≡ None → g.B.Bench.failed_at l.bench ≡ None;
  benches : g.B.Bench.faults l.fn.bench ≤ g.B.Bench.faults l.bench;
  sources : g.S.Sources.faults l.fn.sources ≤ g.S.Sources.faults l.sources;
}
