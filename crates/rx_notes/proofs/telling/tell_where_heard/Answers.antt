use Rattle.std.proofs.Common.{[]}
use Rattle.rx_report.proofs.Tellings.{nothing-told}
use Rattle.rx_notes.proofs.telling.tell_where_heard.Goals as goal

pub returns-then-not-is_heard-clause-told : goal.returns-then-not-is_heard-clause-told
returns-then-not-is_heard-clause-told g c = ([], c.requires.takes, nothing-told _ _)
