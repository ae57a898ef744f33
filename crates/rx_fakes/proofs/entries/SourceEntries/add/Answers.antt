use Rattle.std.proofs.Common.{sym}
use Rattle.rx_fakes.proofs.Nodes.{entries-more, with_entry-held, with_entry-new}
use Rattle.rx_fakes.proofs.entries.SourceEntries.add.Goals as goal

pub returns-then-contains_key-clause-ok : goal.returns-then-contains_key-clause-ok
returns-then-contains_key-clause-ok g c =
    rw (sym c.self.view_is) (with_entry-held c.args.path c.args.node c.self.inside.nodes.entries c.contains_key.result c.contains_key.ensures c.if-contains_key.true)

pub invariant_of-self-2 : goal.invariant_of-self-2
invariant_of-self-2 g c =
    entries-more g.K.Contents.honest g.K.Contents.holds c.args.path c.args.node c.self.inside.nodes.entries c.insert.new.self.entries c.self.invariant c.requires c.in_ok-insert.ensures.ordered c.in_ok-insert.ensures.entries

pub returns-clause-ok : goal.returns-clause-ok
returns-clause-ok g c =
    rw (sym c.self.view_is) (with_entry-new c.args.path c.args.node c.self.inside.nodes.entries c.insert.new.self.entries c.contains_key.result c.contains_key.ensures c.if-contains_key.false c.in_ok-insert.ensures.entries)
