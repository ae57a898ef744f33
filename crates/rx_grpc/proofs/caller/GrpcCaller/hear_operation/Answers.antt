use Rattle.std.proofs.Common.{ap, refl, ◌∙◌}
use Rattle.rx_base.specs.Results.{Gives}
use Rattle.rx_exec_messages.specs.declared.answers.Operation.{Operation}
use Rattle.rx_exec_messages.specs.declared.state_faults.StateFault.TheVariants.{Stream}
use Rattle.rx_world.specs.declared.call_faults.CallFault.TheVariants.{NoMemory}
use Rattle.rx_grpc.specs.StreamedCalls.{state_of}
use Rattle.rx_grpc.proofs.HonestLemmas.{stays-honest}
use Rattle.rx_grpc.proofs.RunningLemmas.{has-next, name-honest, runs-on, state-honest}
use Rattle.rx_grpc.proofs.caller.GrpcCaller.hear_operation.Goals as goal
use Rattle.rx_grpc.proofs.caller.GrpcCaller.hear_operation.Goals.{in-Ok, in_default}

pub invariant_of-self : goal.invariant_of-self
invariant_of-self g c =
    let next = has-next g.D.Dial.rule g.D.L.Link c.self.inside.channel c.next_state-answer.new.channel c.self.inside.instance c.self.inside.begun c.take-first.result (λ message. Gives (Stream NoMemory) (λ (x : Operation). x) c.next_state-answer.result (state_of message)) (rw c.take-first.ensures.value (c.self.invariant (ap (λ x. x.streaming) c.self.view_is ∙ c.requires)).1) c.next_state-answer.ensures.heard in
    λ _. (
      rw c.in-Ok.is at c.next_state-answer.ensures.open,
      rw c.take-first.ensures.after (runs-on g.D.Dial.rule g.D.L.Link c.self.inside.channel c.next_state-answer.new.channel c.self.inside.instance c.self.inside.begun c.in-Ok.operation c.next_state-answer.result c.in-Ok.is next),
    )

pub returns-clause-agrees : goal.returns-clause-agrees
returns-clause-agrees g c =
    let next = has-next g.D.Dial.rule g.D.L.Link c.self.inside.channel c.next_state-answer.new.channel c.self.inside.instance c.self.inside.begun c.take-first.result (λ message. Gives (Stream NoMemory) (λ (x : Operation). x) c.next_state-answer.result (state_of message)) (rw c.take-first.ensures.value (c.self.invariant (ap (λ x. x.streaming) c.self.view_is ∙ c.requires)).1) c.next_state-answer.ensures.heard in
    rw (← c.self.view_is, c.count_state.ensures.same) (state-honest g.D.Dial.rule g.D.L.Link (record { channel = c.self.inside.channel; instance = c.self.inside.instance; begun = c.self.inside.begun; first = c.self.inside.first; streaming = c.self.inside.streaming; faults = c.self.inside.faults }) c.next_state-answer.new.channel c.next_state-answer.result next)

pub returns-clause-named : goal.returns-clause-named
returns-clause-named g c =
    let next = has-next g.D.Dial.rule g.D.L.Link c.self.inside.channel c.next_state-answer.new.channel c.self.inside.instance c.self.inside.begun c.take-first.result (λ message. Gives (Stream NoMemory) (λ (x : Operation). x) c.next_state-answer.result (state_of message)) (rw c.take-first.ensures.value (c.self.invariant (ap (λ x. x.streaming) c.self.view_is ∙ c.requires)).1) c.next_state-answer.ensures.heard in
    rw (← c.self.view_is, c.count_state.ensures.same) (name-honest g.D.Dial.rule g.D.L.Link (record { channel = c.self.inside.channel; instance = c.self.inside.instance; begun = c.self.inside.begun; first = c.self.inside.first; streaming = c.self.inside.streaming; faults = c.self.inside.faults }) c.next_state-answer.new.channel c.next_state-answer.result next)

pub returns-clause-stays : goal.returns-clause-stays
returns-clause-stays g c =
    let next = has-next g.D.Dial.rule g.D.L.Link c.self.inside.channel c.next_state-answer.new.channel c.self.inside.instance c.self.inside.begun c.take-first.result (λ message. Gives (Stream NoMemory) (λ (x : Operation). x) c.next_state-answer.result (state_of message)) (rw c.take-first.ensures.value (c.self.invariant (ap (λ x. x.streaming) c.self.view_is ∙ c.requires)).1) c.next_state-answer.ensures.heard in
    elim c.match-answer.branch [
      | in-Ok w ↦ rw (← c.self.view_is, c.count_state.ensures.rest, w.self-is) (stays-honest g.D.Dial.rule _ _ next.keeps refl)
      | in_default w ↦ rw (← c.self.view_is, c.count_state.ensures.rest, w.self-is) (stays-honest g.D.Dial.rule _ _ next.keeps refl)
    ]
