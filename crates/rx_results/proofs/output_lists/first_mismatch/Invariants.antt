use Rattle.std.proofs.Common.{◌≡◌, [], map, take}
use Rattle.std.specs.List.{filter_map}
use Rattle.rx_results.specs.ResultOutputs.{slot_at}
use Rattle.rx_results.specs.Slots.{mismatch_of}
use Rattle.rx_results.proofs.output_lists.first_mismatch.Given as goal

abbrev pub invariant-loop-output : goal.invariant-loop-output
invariant-loop-output l = filter_map mismatch_of (map slot_at (take l.output-index l.outputs)) ≡ []
