use Rattle.std.proofs.Common.{sym, arith, ◌∙◌}
use Rattle.rx_messages.proofs.NameLaws.{entries_more, entries_stop, entries_end}
use Rattle.rx_messages.proofs.names.are_sorted.Goals as goal

pub returns-then-not-is_below : goal.returns-then-not-is_below
returns-then-not-is_below g c =
    sym (entries_stop g.T.Entry.name c.args.entries.now c.loop-i.i _ _ _ (omega arith) c.index-entries-i.is c.index-entries-i-in-loop-i.is c.loop-i.invariant.so_far (sym c.is_below.ensures ∙ c.if-not-is_below.true))

pub loop-i-preserved : goal.loop-i-preserved
loop-i-preserved g c = record {
  last_is = c.loop-i.invariant.last_is;
  below = omega arith;
  so_far = entries_more g.T.Entry.name c.args.entries.now c.loop-i.i _ _ _ (omega arith) c.index-entries-i.is c.index-entries-i-in-loop-i.is c.loop-i.invariant.so_far (sym c.is_below.ensures ∙ c.if-not-is_below.false);
}

pub returns : goal.returns
returns g c = sym (entries_end g.T.Entry.name c.args.entries.now c.loop-i.i _ (omega arith) c.loop-i.invariant.so_far)
