use Rattle.rx_hpack.proofs.IndexLemmas.{found_behind, none_behind}
use Rattle.rx_hpack.proofs.index.find.Goals as goal

pub returns-in-Some : goal.returns-in-Some
returns-in-Some c =
    found_behind c.args.table.now c.args.index c.in-Some.header.now c.deref.result.now c.deref-in-Some.result.now c.if-place-lt-STATIC_LENGTH.false c.if-index-eq0.false c.in-Some.ensures c.deref.ensures.value c.deref-in-Some.ensures.value

pub returns-in-None : goal.returns-in-None
returns-in-None c = none_behind c.args.table.now c.args.index c.if-place-lt-STATIC_LENGTH.false c.if-index-eq0.false c.in-None.ensures
