use Rattle.std.proofs.Common.{◌≡◌, map, take}
use Rattle.rx_action.specs.OutputPaths.{path_behind}
use Rattle.rx_action.proofs.output_paths.paths_behind.Given as goal

abbrev pub invariant-loop-output : goal.invariant-loop-output
invariant-loop-output l = l.paths.items ≡ map (path_behind l.directory) (take l.output-index l.outputs)
