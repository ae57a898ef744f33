use Rattle.std.proofs.Common.{refl}
use Rattle.rx_codec.specs.FieldBytes.{fields_bytes}
use Rattle.rx_grpc.specs.Questions.{one}
use Rattle.rx_grpc.proofs.CallerLemmas.{unheard}
use Rattle.rx_grpc.proofs.asks.ask.Goals as goal

pub returns-in_default : goal.returns-in_default
returns-in_default g c = unheard g.D.Dial.faults g.D.Dial.rule g.D.L.Link (one c.args.method (fields_bytes (g.Q.Message.fields c.args.question.now))) c.args.channel.now _ (λ other. absurd (other refl))

pub returns-then-len : goal.returns-then-len
returns-then-len g c = unheard g.D.Dial.faults g.D.Dial.rule g.D.L.Link (one c.args.method (fields_bytes (g.Q.Message.fields c.args.question.now))) c.args.channel.now _ (λ other. absurd (other refl))
