use Rattle.std.proofs.Common.{sym}
use Rattle.rx_reach.proofs.SetLemmas.{table-has}
use Rattle.rx_reach.proofs.file_tables.FileTable.contains.Goals as goal

pub returns : goal.returns
returns c = rw (sym c.self.view_is) (table-has c.self.inside.files c.args.path.now c.contains_key.result c.contains_key.ensures)
