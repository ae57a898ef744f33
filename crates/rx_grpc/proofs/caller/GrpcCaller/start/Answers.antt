use Rattle.std.proofs.Common.{refl}
use Rattle.rx_codec.specs.FieldBytes.{fields_bytes}
use Rattle.rx_grpc.specs.Questions.{one}
use Rattle.rx_grpc.proofs.StreamedLemmas.{kept-message, kept-none}
use Rattle.rx_grpc.proofs.HonestLemmas.{stays-honest}
use Rattle.rx_grpc.proofs.RunningLemmas.{items-keep, runs-begun}
use Rattle.rx_grpc.proofs.caller.GrpcCaller.start.Goals as goal

pub returns-in-Ok-clause-heard : goal.returns-in-Ok-clause-heard
returns-in-Ok-clause-heard g c =
    rw (← c.self.view_is) (kept-message g.D.Dial.faults g.D.Dial.rule g.D.L.Link (one c.args.method (fields_bytes (g.Q.Message.fields c.args.question.now))) c.self.inside.channel c.begin_states.new.channel c.in-Ok.message c.begin_states.result c.in-Ok.is c.begin_states.ensures.heard)

pub returns-in-Err-clause-heard : goal.returns-in-Err-clause-heard
returns-in-Err-clause-heard g c =
    rw (← c.self.view_is) (kept-none g.D.Dial.faults g.D.Dial.rule g.D.L.Link (one c.args.method (fields_bytes (g.Q.Message.fields c.args.question.now))) c.self.inside.channel c.begin_states.new.channel c.self.inside.first c.in-Err.fault c.begin_states.result c.in-Err.is c.begin_states.ensures.heard)

pub invariant_of-self : goal.invariant_of-self
invariant_of-self g c = λ _. (
  rw c.in-Ok.is at c.begin_states.ensures.open,
  runs-begun g.D.Dial.rule g.D.L.Link (one c.args.method (fields_bytes (g.Q.Message.fields c.args.question.now))) c.self.inside.channel c.begin_states.new.channel c.self.inside.instance c.args.begun c.in-Ok.message
      (rw (← c.self.view_is) at c.requires) (rw c.in-Ok.is at c.begin_states.ensures.begun),
)

pub returns-in-Ok-clause-stays : goal.returns-in-Ok-clause-stays
returns-in-Ok-clause-stays g c =
    rw (← c.self.view_is) (stays-honest g.D.Dial.rule _ _ (items-keep g.D.Dial.faults g.D.Dial.rule g.D.L.Link _ c.self.inside.channel c.begin_states.new.channel _ c.begin_states.ensures.heard) refl)

pub returns-in-Err-clause-stays : goal.returns-in-Err-clause-stays
returns-in-Err-clause-stays g c =
    rw (← c.self.view_is) (stays-honest g.D.Dial.rule _ _ (items-keep g.D.Dial.faults g.D.Dial.rule g.D.L.Link _ c.self.inside.channel c.begin_states.new.channel _ c.begin_states.ensures.heard) refl)
