use Rattle.rx_wrap.proofs.NumberLemmas.{past_at}
use Rattle.rx_wrap.proofs.numbers.value_of.Goals as goal

pub returns-then-value-most-clause-value : goal.returns-then-value-most-clause-value
returns-then-value-most-clause-value c =
    past_at c.args.most c.loop-digit.value c.loop-digit.digit-index c.from.result c.args.digits.now c.loop-digit-test.true c.loop-digit.invariant.digits c.from.ensures c.if-value-most.true c.loop-digit.invariant.value
