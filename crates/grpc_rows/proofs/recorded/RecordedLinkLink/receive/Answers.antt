use Rattle.std.proofs.Common.{List, ap, ℕ}
use Rattle.grpc_rows.specs.Recorded.{recorded}
use Rattle.rx_fakes.proofs.Reading.{taken_after}
use Rattle.grpc_rows.proofs.RecordedLemmas.{front_at}
use Rattle.grpc_rows.proofs.recorded.RecordedLinkLink.receive.Goals as goal

pub returns-clause-wire : goal.returns-clause-wire
returns-clause-wire c =
    ap (λ (received : List ℕ). record { sent = c.args.self.now.sent.items; received = received }) (taken_after recorded c.copy_from-count.new.into c.args.self.now.at c.copy_from-count.result c.copy_from-count.ensures.copied)

pub returns-clause-meets : goal.returns-clause-meets
returns-clause-meets c = front_at c.args.self.now.sent.items _
