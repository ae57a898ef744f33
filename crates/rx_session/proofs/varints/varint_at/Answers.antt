use Rattle.std.proofs.Common.{◌≡◌, ◌+◌, ◌%◌, sym, arith, lit<}
use Rattle.std.proofs.lemmas.Bool.{ltb-false}
use Rattle.rx_wire.proofs.VarintLemmas.{goes_on, ends, is_cut, tenth, too_long, low_fits, at_nine}
use Rattle.rx_session.proofs.varints.varint_at.Goals as goal

pub returns-in_default-clause-value : goal.returns-in_default-clause-value
returns-in_default-clause-value c = sym (is_cut c.args.bytes.now c.args.at c.loop-i.i c.loop-i.value c.loop-i.weight c.loop-i.invariant (ltb-false _ _ (sym c.in_default.ensures.lookup.0)))

pub overflow_mul-value : goal.overflow_mul-value
overflow_mul-value c =
    let fits = low_fits c.args.bytes.now c.args.at c.loop-i.i c.loop-i.value c.loop-i.weight (c.in-Some.field-0.now % 128) c.loop-i.invariant c.loop-i-test.true (omega arith) in
    rw c.from.ensures (omega arith)

pub overflow_add-value : goal.overflow_add-value
overflow_add-value c =
    let fits = low_fits c.args.bytes.now c.args.at c.loop-i.i c.loop-i.value c.loop-i.weight (c.in-Some.field-0.now % 128) c.loop-i.invariant c.loop-i-test.true (omega arith) in
    rw c.from.ensures (omega arith)

pub overflow_mul-weight : goal.overflow_mul-weight
overflow_mul-weight c =
    let fits = low_fits c.args.bytes.now c.args.at c.loop-i.i c.loop-i.value c.loop-i.weight 127 c.loop-i.invariant c.loop-i-test.true (lit< tt) in
    omega arith

pub returns-then-byte-lt128-clause-value : goal.returns-then-byte-lt128-clause-value
returns-then-byte-lt128-clause-value c =
    let found = c.in-Some.ensures.lookup.3 in
    rw c.from.ensures (sym (ends c.args.bytes.now c.args.at c.loop-i.i c.loop-i.value c.loop-i.weight c.in-Some.field-0.now c.loop-i.invariant c.loop-i-test.true found.0 (found.1 0) (omega arith)))

pub loop-i-preserved : goal.loop-i-preserved
loop-i-preserved c =
    let found = c.in-Some.ensures.lookup.3 in
    rw c.from.ensures (goes_on c.args.bytes.now c.args.at c.loop-i.i c.loop-i.value c.loop-i.weight c.in-Some.field-0.now c.loop-i.invariant c.loop-i-test.true found.0 (found.1 0) (omega arith) (omega (arith, c.type_inv.bytes (c.args.at + c.loop-i.i), found.1 0)))

pub returns-in-None-clause-value : goal.returns-in-None-clause-value
returns-in-None-clause-value c = sym (is_cut c.args.bytes.now c.args.at 9 c.loop-i.value c.loop-i.weight (at_nine _ _ _ _ _ c.loop-i.invariant c.loop-i-test.false c.loop-i.auto.i-end) (ltb-false _ _ (sym c.in-None.ensures.lookup.0)))

pub returns-in-Some-get-clause-value : goal.returns-in-Some-get-clause-value
returns-in-Some-get-clause-value c =
    let found = c.in-Some-get.ensures.lookup.3 in
    rw c.from-in-Some-get.ensures (sym (tenth c.args.bytes.now c.args.at c.loop-i.value c.loop-i.weight c.in-Some-get.field-0.now (at_nine _ _ _ _ _ c.loop-i.invariant c.loop-i-test.false c.loop-i.auto.i-end) found.0 (found.1 0) (omega arith)))

pub returns-in-Some-2-clause-value : goal.returns-in-Some-2-clause-value
returns-in-Some-2-clause-value c =
    let found = c.in-Some-2.ensures.lookup.3 in
    let same : c.in-Some-2.field-0.now ≡ c.in-Some-get.field-0.now = cc in
    sym (too_long c.args.bytes.now c.args.at c.loop-i.value c.loop-i.weight c.in-Some-2.field-0.now (at_nine _ _ _ _ _ c.loop-i.invariant c.loop-i-test.false c.loop-i.auto.i-end) found.0 (found.1 0) (omega arith))
