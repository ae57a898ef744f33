use Rattle.std.proofs.Common.{◌≡◌, ◌++◌, map, take}
use Rattle.rx_results.specs.ResultOutputs.{slot_at}
use Rattle.rx_results.specs.Results.{wanted_for}
use Rattle.rx_results.proofs.output_lists.add_all_wanted.Given as goal

abbrev pub invariant-loop-output : goal.invariant-loop-output
invariant-loop-output l = l.digests ≡ l.initial.digests ++ wanted_for
    (map slot_at (take l.output-index l.outputs))
