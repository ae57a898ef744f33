use Rattle.rx_engine.proofs.PendingLemmas.{read-outputs}
use Rattle.rx_engine.proofs.pending.read_asked.Goals as goal

pub returns-clause-outputs : goal.returns-clause-outputs
returns-clause-outputs g c = read-outputs c.args.root.now _ c.read_incoming.result c.read_incoming.ensures.incoming
