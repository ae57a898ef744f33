use Rattle.std.proofs.lemmas.Result.{err_from_is_err_and}
use Rattle.rx_hpack.proofs.HuffmanTableLemmas.{second_answers, first_fails}
use Rattle.rx_hpack.proofs.huffman.after_byte.Goals as goal

pub returns-in_err-state : goal.returns-in_err-state
returns-in_err-state c =
    let p = err_from_is_err_and c.from_residual.result c.from_residual.ensures.1 in
    rw (p.1, p.2) (first_fails c.in_err-state.field-0.0 c.args.state c.args.byte c.args.text.now.items c.after_four.new.text.items c.in_err-state.ensures)

pub returns : goal.returns
returns c = second_answers c.after_four-2.result c.args.state c.args.byte c.in_ok-state.state c.args.text.now.items c.after_four.new.text.items c.after_four-2.new.text.items c.in_ok-state.ensures c.after_four-2.ensures
