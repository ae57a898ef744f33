use Rattle.std.proofs.Common.{arith}
use Rattle.rx_hpack.specs.Header.{views}
use Rattle.rx_hpack.proofs.TableLemmas.{oldest_fits, evicts_more, evicts_done}
use Rattle.rx_hpack.proofs.dynamic_table.evict.Goals as goal

pub entry_size-size-requires : goal.entry_size-size-requires
entry_size-size-requires c = omega (arith, oldest_fits c.args.room (views c.args.entries.now.items) c.loop-size.entries.items c.pop_back.new.self.items c.in-Some.oldest c.loop-size.size c.in-Some.ensures.items c.loop-size.invariant, c.loop-size.auto.size-fits)

pub overflow_sub-size : goal.overflow_sub-size
overflow_sub-size c = omega (arith, oldest_fits c.args.room (views c.args.entries.now.items) c.loop-size.entries.items c.pop_back.new.self.items c.in-Some.oldest c.loop-size.size c.in-Some.ensures.items c.loop-size.invariant, c.entry_size-size.ensures)

pub loop-size-preserved : goal.loop-size-preserved
loop-size-preserved c = evicts_more c.args.room (views c.args.entries.now.items) c.loop-size.entries.items c.pop_back.new.self.items c.in-Some.oldest c.loop-size.size c.entry_size-size.result c.loop-size-test.true c.in-Some.ensures.items c.entry_size-size.ensures c.loop-size.invariant

pub returns-after-loop-size-clause-kept : goal.returns-after-loop-size-clause-kept
returns-after-loop-size-clause-kept c = evicts_done c.args.room (views c.args.entries.now.items) (views c.loop-size.entries.items) c.loop-size.size c.loop-size-test.false c.loop-size.invariant
