use Rattle.std.proofs.Common.{[], ◌∷◌, refl}
use Rattle.rx_grpc.specs.StreamedCalls.{joined_of}
use Rattle.rx_grpc.proofs.RefusedLemmas.{refused-by}
use Rattle.rx_grpc.proofs.StreamedLemmas.{joined-of-refused}
use Rattle.rx_grpc.specs.Questions.{asks_blob}
use Rattle.rx_grpc.proofs.HonestLemmas.{stays-honest}
use Rattle.rx_grpc.proofs.JoinedLemmas.{blob-honest}
use Rattle.rx_grpc.proofs.RunningLemmas.{items-keep}
use Rattle.rx_grpc.proofs.caller.GrpcCaller.hear_blob.Goals as goal

pub returns-clause-refused : goal.returns-clause-refused
returns-clause-refused g c =
    let h = c.read_blob-answer.ensures in
    let asked = c.args.digest.now ∷ [] in
    rw c.count_fault.ensures.same (refused-by (λ x. x) asked c.read_blob-answer.result (joined_of h.begun h.items) h.is_such (joined-of-refused asked h.begun h.items))

pub returns-clause-honest : goal.returns-clause-honest
returns-clause-honest g c =
    rw (← c.self.view_is, c.count_fault.ensures.same) (blob-honest g.D.Dial.faults g.D.Dial.rule g.D.L.Link (record { channel = c.self.inside.channel; instance = c.self.inside.instance; begun = c.self.inside.begun; first = c.self.inside.first; streaming = c.self.inside.streaming; faults = c.self.inside.faults }) c.read_blob-answer.new.channel c.args.digest.now c.read_blob-answer.result c.read_blob-answer.ensures)

pub returns-clause-stays : goal.returns-clause-stays
returns-clause-stays g c =
    rw (← c.self.view_is, c.count_fault.ensures.rest) (stays-honest g.D.Dial.rule _ _ (items-keep g.D.Dial.faults g.D.Dial.rule g.D.L.Link (asks_blob c.self.inside.instance c.args.digest.now) c.self.inside.channel c.read_blob-answer.new.channel _ c.read_blob-answer.ensures) refl)
