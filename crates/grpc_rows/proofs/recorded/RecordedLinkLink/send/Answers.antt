use Rattle.grpc_rows.proofs.RecordedLemmas.{front_at}
use Rattle.grpc_rows.proofs.recorded.RecordedLinkLink.send.Goals as goal

pub returns-in-Ok-clause-meets : goal.returns-in-Ok-clause-meets
returns-in-Ok-clause-meets c = front_at c.args.self.now.sent.items c.args.self.now.at

pub returns-in-Err-clause-meets : goal.returns-in-Err-clause-meets
returns-in-Err-clause-meets c = front_at c.args.self.now.sent.items c.args.self.now.at
