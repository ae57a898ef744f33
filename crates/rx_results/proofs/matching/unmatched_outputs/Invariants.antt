use Rattle.std.proofs.Common.{◌≡◌, map, take}
use Rattle.rx_results.specs.ResultOutputs.{nothing_at}
use Rattle.rx_results.proofs.matching.unmatched_outputs.Given as goal

abbrev pub invariant-loop-path : goal.invariant-loop-path
invariant-loop-path l = l.outputs.items ≡ map nothing_at (take l.path-index l.paths)
