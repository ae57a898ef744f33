use Rattle.std.proofs.Common.{◌∙◌, sym}
use Rattle.rx_action.proofs.OutputsBelow.{all_checked}
use Rattle.rx_action.proofs.action_keys.action_of.Goals as goal

pub returns-in_err-check_outputs-clause-below : goal.returns-in_err-check_outputs-clause-below
returns-in_err-check_outputs-clause-below c = λ below.
    let passed = c.check_outputs.ensures ∙ rw (← c.as_slice.ensures) at (all_checked _ _ below) in
    absurd (cc (sym passed ∙ c.in_err-check_outputs.was))
