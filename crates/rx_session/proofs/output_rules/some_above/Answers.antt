use Rattle.std.proofs.Common.{sym, ◌∙◌}
use Rattle.rx_session.proofs.OutputLemmas.{above_none, above_so}
use Rattle.rx_session.proofs.output_rules.some_above.Goals as goal

pub returns-then-is_below_one : goal.returns-then-is_below_one
returns-then-is_below_one c = above_so _ _ _ _ c.loop-path-test.true c.path-item.is (sym c.is_below_one.ensures ∙ c.if-is_below_one.true)

pub returns : goal.returns
returns c = above_none _ _ _ c.loop-path-test.false c.loop-path.invariant
