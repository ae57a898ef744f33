use Rattle.std.proofs.Common.{sym}
use Rattle.rx_reach.proofs.SetLemmas.{table-adds, table-grows}
use Rattle.rx_reach.proofs.file_tables.FileTable.insert.Goals as goal

pub returns-clause-added : goal.returns-clause-added
returns-clause-added c = λ other.
    rw (sym c.self.view_is)
    (table-adds c.self.inside.files c.insert.new.self c.args.path c.args.file c.in_ok-insert.ensures.was_ordered c.in_ok-insert.ensures.ordered c.in_ok-insert.ensures.updates (rw (sym c.self.view_is) at c.requires) other)

pub returns-clause-len : goal.returns-clause-len
returns-clause-len c =
    rw (sym c.self.view_is) (table-grows c.self.inside.files c.insert.new.self c.args.path _ c.in_ok-insert.ensures.old c.in_ok-insert.ensures.len (rw (sym c.self.view_is) at c.requires))
