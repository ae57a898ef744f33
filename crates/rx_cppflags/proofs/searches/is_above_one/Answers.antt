use Rattle.std.proofs.Common.{◌∙◌}
use Rattle.rx_base.proofs.SortedSearch.{position_is_any}
use Rattle.rx_cppflags.proofs.searches.is_above_one.Goals as goal

pub returns : goal.returns
returns c = c.is_some.ensures ∙ rw c.first_below.ensures (position_is_any _ c.args.others.now)
