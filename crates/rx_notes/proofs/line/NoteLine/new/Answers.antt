use Rattle.rx_notes.proofs.Steps.{begins}
use Rattle.rx_notes.proofs.line.NoteLine.new.Goals as goal

pub ruled-requires-clause-rule : goal.ruled-requires-clause-rule
ruled-requires-clause-rule c = begins
