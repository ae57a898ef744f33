use Rattle.std.proofs.Common.{◌∙◌, sym}
use Rattle.rx_base.proofs.SortedSearch.{above_first, at_first}
use Rattle.rx_base.proofs.sorted_paths.first_at_or_above.Goals as goal

pub returns-in-Some : goal.returns-in-Some
returns-in-Some c = sym (above_first c.args.paths.now c.requires c.args.path.now c.in-Some.at (sym c.in-Some.ensures))

pub returns-in-None : goal.returns-in-None
returns-in-None c = rw (c.as_bytes.ensures.value, c.as_str.ensures.text) at c.index_of.ensures ∙ at_first c.args.paths.now c.requires c.args.path.now (sym c.in-None.ensures)
