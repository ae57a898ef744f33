use Rattle.rx_cppflags.proofs.SearchLemmas.{found_above, none_above}
use Rattle.rx_cppflags.proofs.searches.is_apart.Goals as goal

pub returns-then-is_none : goal.returns-then-is_none
returns-then-is_none c =
    none_above c.args.path.now c.args.others.now c.is_none.result c.is_none-then-is_none.result (rw c.first_above.ensures at c.is_none.ensures) c.if-is_none.true (rw c.first_below.ensures at c.is_none-then-is_none.ensures)

pub returns-else-is_none : goal.returns-else-is_none
returns-else-is_none c = found_above c.args.path.now c.args.others.now c.is_none.result (rw c.first_above.ensures at c.is_none.ensures) c.if-is_none.false
