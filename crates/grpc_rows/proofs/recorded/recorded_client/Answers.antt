use Rattle.grpc_rows.proofs.RecordedLemmas.{recorded_genuine, recorded_vouches}
use Rattle.grpc_rows.proofs.recorded.recorded_client.Goals as goal

pub returns-clause-vouches : goal.returns-clause-vouches
returns-clause-vouches c = λ blob operation digest command outcome agrees. recorded_vouches c.new.result.channel.authority c.new.result.instance blob operation digest command outcome agrees

pub returns-clause-genuine : goal.returns-clause-genuine
returns-clause-genuine c = λ blob operation dialect. recorded_genuine c.new.result.channel.authority c.new.result.instance blob operation dialect
