use Rattle.std.proofs.Common.{◌≡◌, take}
use Rattle.std.specs.List.{flat_map}
use Rattle.rx_engine.specs.Attempts.{AreTellable, failure_of}
use Rattle.rx_engine.proofs.answered.failures_of.Given as goal

abbrev pub invariant-loop-end : goal.invariant-loop-end
invariant-loop-end l = record {
  failures : l.failures ≡ flat_map failure_of (take l.end-index l.ends);
  tellable : AreTellable (take l.end-index l.ends);
}
