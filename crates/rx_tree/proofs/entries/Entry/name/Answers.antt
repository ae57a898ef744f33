use Rattle.std.proofs.Common.{arith, length}
use Rattle.rx_tree.proofs.EntryLemmas.{got_name, got_some}
use Rattle.rx_tree.proofs.entries.Entry.name.Goals as goal

pub returns-clause-name : goal.returns-clause-name
returns-clause-name c = rw (c.copied.ensures, ← c.self.view_is, ← c.self.invariant) (got_name c.self.inside.names.items c.args.depth c.get.result (rw c.deref.ensures.value at c.get.ensures.lookup.3))

pub returns-clause-deeper : goal.returns-clause-deeper
returns-clause-deeper c = λ some.
    let lt = got_some (length c.deref.result.now) c.args.depth c.get.result c.get.ensures.lookup.0 (rw c.copied.ensures at some) in
    let small = c.self.inside.names.small in
    omega (arith, c.deref.ensures.len, c.self.inside.names.small)
