use Rattle.std.proofs.Common.{sym, ◌∙◌}
use Rattle.rx_session.proofs.TextLemmas.{root_directory}
use Rattle.rx_session.proofs.paths_in.read_directory.Goals as goal

pub returns-then-is_empty-clause-some : goal.returns-then-is_empty-clause-some
returns-then-is_empty-clause-some c = root_directory _ _ c.root.ensures (sym c.is_empty.ensures ∙ c.if-is_empty.true)
