use Rattle.std.proofs.Common.{◌≡◌, map, take}
use Rattle.rx_results.specs.ResultOutputs.{with_directories, AreOutputsOf}
use Rattle.rx_results.proofs.matching.match_directories.Given as goal

abbrev pub invariant-loop-directory : goal.invariant-loop-directory
invariant-loop-directory l =
    (l.outputs.items ≡ map (with_directories l.command (take l.directory-index l.directories))
    l.initial.outputs.items)
    × AreOutputsOf l.command l.outputs.items
