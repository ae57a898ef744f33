use Rattle.std.proofs.Common.{Some, None, ap, ◌∙◌}
use Rattle.rx_cppflags.proofs.SameInputs.{told_outside}
use Rattle.rx_cppflags.proofs.readings.outside_of.Goals as goal

pub returns-in-Some : goal.returns-in-Some
returns-in-Some c =
    told_outside c.args.outputs.now _ _ c.as_slice.result.now c.args.pieces.now (Some c.in_ok-copy_of-in-Some.field-0) (rw c.in_ok-try_clone.ensures at c.in_ok-outputs_of.ensures) c.in_ok-outputs.ensures.members c.as_slice.ensures
    (ap Some c.in_ok-copy_of-in-Some.ensures ∙ c.in-Some.ensures)

pub returns : goal.returns
returns c =
    told_outside c.args.outputs.now _ _ c.as_slice.result.now c.args.pieces.now None (rw c.in_ok-try_clone.ensures at c.in_ok-outputs_of.ensures) c.in_ok-outputs.ensures.members c.as_slice.ensures c.in-None.ensures
