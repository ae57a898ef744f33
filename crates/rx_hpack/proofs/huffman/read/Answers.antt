use Rattle.std.proofs.lemmas.Result.{err_from_is_err_and}
use Rattle.rx_hpack.proofs.HuffmanLoop.{at_the_start, goes_on_at, fails_at, ends_badly, ends_well}
use Rattle.rx_hpack.proofs.huffman.read.Goals as goal

pub loop-byte-init : goal.loop-byte-init
loop-byte-init c = rw c.in_ok-text.ensures.items (at_the_start c.args.coded.now)

pub returns-in_err-state : goal.returns-in_err-state
returns-in_err-state c =
    let p = err_from_is_err_and c.from_residual-in_err-state.result c.from_residual-in_err-state.ensures.1 in
    rw (p.1, p.2) (fails_at c.in_err-state.field-0.0 c.args.coded.now c.loop-byte.text.items c.loop-byte.state c.loop-byte.byte-index c.after_byte.new.text.items c.loop-byte-test.true c.loop-byte.invariant c.in_err-state.ensures)

pub loop-byte-preserved : goal.loop-byte-preserved
loop-byte-preserved c =
    goes_on_at c.args.coded.now c.loop-byte.text.items c.loop-byte.state c.loop-byte.byte-index c.in_ok-state.state c.after_byte.new.text.items c.loop-byte-test.true c.loop-byte.invariant c.in_ok-state.ensures

pub returns-then-not-is_end : goal.returns-then-not-is_end
returns-then-not-is_end c = ends_badly c.args.coded.now c.loop-byte.text.items c.loop-byte.state c.loop-byte.byte-index c.loop-byte-test.false c.loop-byte.invariant c.if-not-is_end.ensures

pub returns : goal.returns
returns c = ends_well c.args.coded.now c.loop-byte.text.items c.loop-byte.state c.loop-byte.byte-index c.loop-byte-test.false c.loop-byte.invariant c.if-not-is_end.ensures
