use Rattle.std.proofs.Common.{refl}
use Rattle.rx_grpc.specs.Questions.{asks_missing}
use Rattle.rx_grpc.proofs.CallerLemmas.{unheard}
use Rattle.rx_grpc.proofs.asks.ask_missing.Goals as goal

pub returns-in_default : goal.returns-in_default
returns-in_default g c = unheard g.D.Dial.faults g.D.Dial.rule g.D.L.Link (asks_missing c.args.instance.now c.args.digests.now) c.args.channel.now _ (λ other. absurd (other refl))
