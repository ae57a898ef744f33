use Rattle.rx_notes.proofs.Steps.{sent-none}
use Rattle.rx_notes.proofs.telling.mark_end.Goals as goal

pub returns-clause-same : goal.returns-clause-same
returns-clause-same g c = sent-none _ _ c.send.ensures.sent
