use Rattle.std.proofs.Common.{◌≡◌, map}
use Rattle.rx_results.specs.ResultOutputs.{with_files, AreOutputsOf}
use Rattle.rx_results.proofs.matching.match_files.Given as goal

abbrev pub invariant-loop-file : goal.invariant-loop-file
invariant-loop-file l =
    (l.outputs.items ≡ map (with_files l.command l.yielded) l.initial.outputs.items)
    × AreOutputsOf l.command l.outputs.items
