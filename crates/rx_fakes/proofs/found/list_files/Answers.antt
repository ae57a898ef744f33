use Rattle.std.proofs.Common.{map}
use Rattle.rx_fakes.proofs.Listing.{lists_found}
use Rattle.rx_fakes.proofs.Nodes.{first_placed_by-sorted}
use Rattle.rx_fakes.specs.Entries.{entry_of}
use Rattle.rx_fakes.proofs.found.list_files.Goals as goal

pub returns : goal.returns
returns c =
    rw (c.from_vec.ensures, c.cut.ensures, c.keep_under.ensures, c.keep_files.ensures, c.in_ok-found.ensures)
    (lists_found (map entry_of c.args.nodes.now.entries) c.args.under.now c.args.most (first_placed_by-sorted c.args.nodes.now.entries c.requires))
