use Rattle.std.proofs.Common.{◌≡◌, ◌≤◌, false, map, nat_lt, take}
use Rattle.std.specs.List.{list_any}
use Rattle.std.specs.Prelude.{sum}
use Rattle.rx_results.specs.ResultOutputs.{slot_at}
use Rattle.rx_results.specs.Results.{most_file_bytes, most_files_bytes}
use Rattle.rx_results.specs.Slots.{file_size}
use Rattle.rx_results.proofs.output_lists.are_too_large.Given as goal

abbrev pub invariant-loop-output : goal.invariant-loop-output
invariant-loop-output l = record {
  total_is : l.total ≡ sum (map file_size (map slot_at (take l.output-index l.outputs)));
  total_fits : l.total ≤ most_files_bytes;
  each_fits : list_any (λ file. nat_lt most_file_bytes (file_size file))
      (map slot_at (take l.output-index l.outputs)) ≡ false;
}
