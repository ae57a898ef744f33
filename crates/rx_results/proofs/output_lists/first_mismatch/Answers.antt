use Rattle.std.proofs.Common.{◌∙◌, sym}
use Rattle.rx_results.specs.ResultOutputs.{slot_at}
use Rattle.rx_results.specs.Slots.{mismatch_of}
use Rattle.rx_results.proofs.ListLemmas.{first_found, none_more}
use Rattle.rx_results.proofs.output_lists.first_mismatch.Goals as goal

pub returns-in-Some : goal.returns-in-Some
returns-in-Some c =
    sym (first_found mismatch_of slot_at c.args.outputs.now c.loop-output.output-index
    c.output-item.result c.in-Some.mismatch c.loop-output-test.true c.loop-output.invariant
    (rw (← c.output-item.is) (sym c.mismatch.ensures ∙ c.in-Some.is)))

pub loop-output-preserved : goal.loop-output-preserved
loop-output-preserved c =
    none_more mismatch_of slot_at c.args.outputs.now c.loop-output.output-index c.output-item.result
    c.loop-output-test.true c.loop-output.invariant
    (rw (← c.output-item.is) (sym c.mismatch.ensures ∙ c.in_default.is))
