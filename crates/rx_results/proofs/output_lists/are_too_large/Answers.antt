use Rattle.rx_results.proofs.ListLemmas.{all_too_large, one_too_large}
use Rattle.rx_results.proofs.output_lists.are_too_large.Goals as goal

pub returns-then-size-gt-MAX_FILE_BYTES : goal.returns-then-size-gt-MAX_FILE_BYTES
returns-then-size-gt-MAX_FILE_BYTES c =
    one_too_large c.args.outputs.now c.loop-output.output-index c.output-item.result
    c.loop-output-test.true
    (rw (← c.output-item.is) (rw (← c.size-size.ensures) c.if-size-gt-MAX_FILE_BYTES.true))

pub returns-then-total-gt-MAX_FILES_BYTES : goal.returns-then-total-gt-MAX_FILES_BYTES
returns-then-total-gt-MAX_FILES_BYTES c =
    all_too_large c.args.outputs.now c.loop-output.output-index c.output-item.result
    c.loop-output.total c.loop-output-test.true c.loop-output.invariant.total_is
    (rw (← c.output-item.is) (rw (← c.size-size.ensures) c.if-total-gt-MAX_FILES_BYTES.true))
