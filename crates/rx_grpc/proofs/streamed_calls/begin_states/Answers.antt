use Rattle.std.proofs.Common.{refl}
use Rattle.rx_codec.specs.FieldBytes.{fields_bytes}
use Rattle.rx_grpc.specs.Questions.{one}
use Rattle.rx_grpc.specs.StreamedCalls.{message_of}
use Rattle.rx_grpc.proofs.StreamedLemmas.{gives-same, nothing-came, one-came}
use Rattle.rx_grpc.proofs.RunningLemmas.{states-begun}
use Rattle.rx_grpc.proofs.streamed_calls.begin_states.Goals as goal

pub returns-in-Ok-clause-heard : goal.returns-in-Ok-clause-heard
returns-in-Ok-clause-heard g c =
    let h = c.next_message.ensures.heard in
    one-came g.D.Dial.faults g.D.Dial.rule g.D.L.Link (one c.args.method (fields_bytes (g.Q.Message.fields c.args.question.now))) c.args.channel.now c.begin.new.channel c.next_message.new.channel c.begin.result h.came _ c.begin.ensures.begun h.goes_on
    (rw c.in-Ok.is (gives-same c.next_message.result (message_of h.came) h.is_such))

pub returns-in-Err-clause-heard : goal.returns-in-Err-clause-heard
returns-in-Err-clause-heard g c =
    nothing-came g.D.Dial.faults g.D.Dial.rule g.D.L.Link (one c.args.method (fields_bytes (g.Q.Message.fields c.args.question.now))) c.args.channel.now c.begin.new.channel c.begin.result _ c.begin.ensures.begun (rw (c.in-Err.is, c.failed.ensures) (λ other. refl))

pub returns-in-Ok-clause-begun : goal.returns-in-Ok-clause-begun
returns-in-Ok-clause-begun g c =
    states-begun g.D.Dial.faults g.D.Dial.rule g.D.L.Link (one c.args.method (fields_bytes (g.Q.Message.fields c.args.question.now))) c.args.channel.now c.begin.new.channel c.next_message.new.channel c.next_message.result
    (rw c.in-Ok.is at c.begin.ensures.begun) c.next_message.ensures.heard
