use Rattle.std.proofs.Common.{◌≡◌, map}
use Rattle.rx_results.specs.Outcomes.{filled}
use Rattle.rx_results.specs.ResultOutputs.{files_in, slot_at}
use Rattle.rx_results.proofs.FillLemmas.{texts_past}
use Rattle.rx_results.proofs.output_lists.fill_outputs.Given as goal

abbrev pub invariant-loop-output : goal.invariant-loop-output
invariant-loop-output l =
    (l.files ≡ files_in l.yielded (filled (map slot_at l.yielded) l.initial.texts.items))
    × (l.texts.items ≡ texts_past (map slot_at l.yielded) l.initial.texts.items)
