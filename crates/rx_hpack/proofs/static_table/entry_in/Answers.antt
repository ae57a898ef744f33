use Rattle.rx_hpack.proofs.StaticTableLemmas.{get-map}
use Rattle.rx_hpack.proofs.static_table.entry_in.Goals as goal

pub returns : goal.returns
returns c = get-map c.args.table.now c.args.place _ c.requires
