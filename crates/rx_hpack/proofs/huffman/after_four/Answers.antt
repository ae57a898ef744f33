use Rattle.std.proofs.Common.{rules, sym}
use Rattle.std.proofs.lemmas.List.{append-nil}
use Rattle.rx_hpack.proofs.HuffmanTableLemmas.{four_marked, four_goes, symbols_byte, symbols_none}
use Rattle.rx_hpack.proofs.huffman.after_four.Goals as goal
use Rattle.rx_hpack.proofs.huffman.after_four.Goals.{then-symbol-lt-END_MARK+in_ok-push, else-symbol-lt-END_MARK}

pub returns-then-symbol-eq-END_MARK : goal.returns-then-symbol-eq-END_MARK
returns-then-symbol-eq-END_MARK c = (four_marked c.args.state c.args.bits c.symbol-symbol.result c.ranges.state.fits c.requires c.symbol-symbol.ensures c.if-symbol-eq-END_MARK.true, search rules)

pub returns : goal.returns
returns c = four_goes c.args.state c.args.bits c.symbol-symbol.result c.next_state.result c.args.text.now.items c.if-symbol-lt-END_MARK.text.items c.ranges.state.fits c.requires c.symbol-symbol.ensures c.if-symbol-eq-END_MARK.false
    (elim c.if-symbol-lt-END_MARK.branch [
      | then-symbol-lt-END_MARK+in_ok-push w ↦ rw (w.text-is, symbols_byte c.symbol-symbol.result w.if-symbol-lt-END_MARK.true) w.in_ok-push.ensures.items
      | else-symbol-lt-END_MARK w ↦ rw (w.text-is, symbols_none c.symbol-symbol.result w.if-symbol-lt-END_MARK.false c.if-symbol-eq-END_MARK.false) (sym (append-nil c.args.text.now.items))
    ])
    c.next_state.ensures
