use Rattle.std.proofs.Common.{ℕ, List, [], ap, refl}
use Rattle.uuid.specs.Text.{hyphenated_text, lower}
use Rattle.rx_grpc.specs.Questions.{asks_write}
use Rattle.rx_grpc.specs.Resources.{write_name}
use Rattle.rx_grpc.proofs.AskedLemmas.{hears-same}
use Rattle.rx_grpc.proofs.CallerLemmas.{unheard}
use Rattle.rx_grpc.proofs.HonestLemmas.{stays-honest}
use Rattle.rx_grpc.proofs.KeepLemmas.{keeps-all}
use Rattle.rx_grpc.proofs.caller.GrpcCaller.hear_write.Goals as goal

pub returns-in_default-clause-heard : goal.returns-in_default-clause-heard
returns-in_default-clause-heard g c = ([], rw (← c.self.view_is) (unheard g.D.Dial.faults g.D.Dial.rule g.D.L.Link (asks_write (write_name c.self.inside.instance [] c.args.digest.now) c.args.bytes.now) c.self.inside.channel _ (λ other. absurd (other refl))))

pub returns-clause-heard : goal.returns-clause-heard
returns-clause-heard g c =
    let asked = ap (λ (name : List ℕ). asks_write name c.args.bytes.now) c.in-Ok.ensures in
    (hyphenated_text lower c.new_v4-upload.result, rw (← c.self.view_is, c.count_fault.ensures.same, c.count_fault.ensures.rest) (hears-same g.D.Dial.faults g.D.Dial.rule g.D.L.Link _ _ _ _ _ asked c.write_blob-answer.ensures))

pub returns-in_default-clause-stays : goal.returns-in_default-clause-stays
returns-in_default-clause-stays g c = rw (← c.self.view_is) (stays-honest g.D.Dial.rule _ _ (keeps-all g.D.Dial.rule c.self.inside.channel) refl)

pub returns-clause-stays : goal.returns-clause-stays
returns-clause-stays g c = rw (← c.self.view_is, c.count_fault.ensures.rest) (stays-honest g.D.Dial.rule _ _ c.write_blob-answer.ensures.keeps refl)
