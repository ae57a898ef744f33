use Rattle.std.proofs.Common.{sym, ◌∙◌}
use Rattle.rx_session.proofs.OutputLemmas.{stands}
use Rattle.rx_session.proofs.output_rules.outputs_stand.Goals as goal

pub returns-then-some_above : goal.returns-then-some_above
returns-then-some_above c =
    let below = sym c.all_below.ensures ∙ c.if-not-all_below.false in
    let whole = stands c.args.directory.now c.args.inputs.now c.args.toolchain_inputs.now _ _ _ _ c.as_slice.ensures c.as_slice-outputs.ensures c.in_ok-sorted.ensures.members below in
    rw (sym c.some_above.ensures ∙ c.if-some_above.true) at whole

pub returns-then-some_above-2 : goal.returns-then-some_above-2
returns-then-some_above-2 c =
    let below = sym c.all_below.ensures ∙ c.if-not-all_below.false in
    let whole = stands c.args.directory.now c.args.inputs.now c.args.toolchain_inputs.now _ _ _ _ c.as_slice.ensures c.as_slice-outputs.ensures c.in_ok-sorted.ensures.members below in
    rw (sym c.some_above.ensures ∙ c.if-some_above.false, sym c.some_above-2.ensures ∙ c.if-some_above-2.true) at whole

pub returns : goal.returns
returns c =
    let below = sym c.all_below.ensures ∙ c.if-not-all_below.false in
    let whole = stands c.args.directory.now c.args.inputs.now c.args.toolchain_inputs.now _ _ _ _ c.as_slice.ensures c.as_slice-outputs.ensures c.in_ok-sorted.ensures.members below in
    rw c.some_above-3.ensures (rw (sym c.some_above.ensures ∙ c.if-some_above.false, sym c.some_above-2.ensures ∙ c.if-some_above-2.false) at whole)
