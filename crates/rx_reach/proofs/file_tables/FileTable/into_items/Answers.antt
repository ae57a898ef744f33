use Rattle.rx_reach.proofs.SetLemmas.{table-sorted}
use Rattle.rx_reach.proofs.file_tables.FileTable.into_items.Goals as goal

pub returns-clause-sorted : goal.returns-clause-sorted
returns-clause-sorted c = table-sorted c.self.inside.files.entries c.list_files.result c.self.invariant c.list_files.ensures
