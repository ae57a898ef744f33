use Rattle.std.proofs.Common.{◌<◌, ◌∙◌, refl, subst, sym}
use Rattle.rx_remote.specs.declared.phases.Phase.TheVariants as phases
use Rattle.rx_remote.specs.declared.states.RemoteState.{RemoteState}
use Rattle.rx_remote.specs.Measure.{turns_left}
use Rattle.rx_remote.specs.Runs.{IsAsking}
use Rattle.rx_remote.proofs.FirstLemmas.{first-none, first-some}
use Rattle.rx_remote.proofs.LoopLemmas.{any-then, asked-on, asked-start}
use Rattle.rx_remote.proofs.StopTold.{ends-since}
use Rattle.rx_remote.proofs.begins.begin.Goals as goal

pub loop-end-init : goal.loop-end-init
loop-end-init g c = (asked-start g.W.World g.C.Caller c.args.task c.args.caller.now c.new-state.result c.requires c.new-state.ensures, refl, refl)

pub first_turn-requires : goal.first_turn-requires
first_turn-requires g c = c.loop-end.invariant.0.sorted

pub returns-in-Err-clause-ended : goal.returns-in-Err-clause-ended
returns-in-Err-clause-ended g c = c.in-Err.ensures.ended c.args.task c.args.caller.now c.loop-end.invariant.0.asking

pub returns-in-Err-clause-exchanged : goal.returns-in-Err-clause-exchanged
returns-in-Err-clause-exchanged g c =
    any-then g.C.Caller c.args.caller.now c.loop-end.caller c.first_turn.new.caller c.loop-end.invariant.0.exchanged c.in-Err.ensures.exchanged

pub returns-in-Err-clause-own : goal.returns-in-Err-clause-own
returns-in-Err-clause-own g c = c.in-Err.ensures.own c.args.task c.args.caller.now c.loop-end.invariant.0.asking

pub returns-in-Err-clause-stop : goal.returns-in-Err-clause-stop
returns-in-Err-clause-stop g c =
    ends-since (g.T.Stop.told c.args.stop.now) (g.T.Stop.told c.loop-end.stop) (g.T.Stop.told c.first_turn.new.stop) c.in-Err.end c.loop-end.invariant.1
    (c.in-Err.ensures.stop c.args.task c.args.caller.now c.loop-end.invariant.0.asking)

pub returns-in-Some-clause-same : goal.returns-in-Some-clause-same
returns-in-Some-clause-same g c =
    c.in-Ok.ensures.same c.args.task c.args.caller.now c.loop-end.invariant.0.asking ∙ c.loop-end.invariant.1

pub returns-in-Some-clause-told : goal.returns-in-Some-clause-told
returns-in-Some-clause-told g c =
    first-some g.W.World g.C.Caller c.args.task c.args.caller.now c.first_turn.new.caller c.loop-end.state c.in-Ok.first.told c.in-Some.told c.in-Ok.first.going c.in-Some.is
    (c.in-Ok.ensures.goes_on c.args.task c.args.caller.now c.loop-end.invariant.0.asking)

pub returns-in-Some-clause-exchanged : goal.returns-in-Some-clause-exchanged
returns-in-Some-clause-exchanged g c =
    any-then g.C.Caller c.args.caller.now c.loop-end.caller c.first_turn.new.caller c.loop-end.invariant.0.exchanged c.in-Ok.ensures.exchanged

pub loop-end-preserved : goal.loop-end-preserved
loop-end-preserved g c = (
  asked-on g.W.World g.C.Caller c.args.task c.args.caller.now c.loop-end.caller c.first_turn.new.caller c.loop-end.state c.state_of-state.result c.requires
      c.loop-end.invariant.0 c.in-Ok.ensures.exchanged
      (subst (λ (s : RemoteState). IsAsking g.W.World g.C.Caller c.args.task c.args.caller.now c.first_turn.new.caller s) (sym c.state_of-state.ensures)
      (first-none g.W.World g.C.Caller c.args.task c.args.caller.now c.first_turn.new.caller c.loop-end.state c.in-Ok.first.told c.in-Ok.first.going c.in-None.is
      (c.in-Ok.ensures.goes_on c.args.task c.args.caller.now c.loop-end.invariant.0.asking)).0),
  c.in-Ok.ensures.same c.args.task c.args.caller.now c.loop-end.invariant.0.asking ∙ c.loop-end.invariant.1,
  c.in-Ok.ensures.attempt ∙ c.loop-end.invariant.2,
)

pub loop-end-smaller : goal.loop-end-smaller
loop-end-smaller g c =
    subst (λ (s : RemoteState). turns_left s.marks phases.Capabilities < turns_left c.loop-end.state.marks phases.Capabilities) (sym c.state_of-state.ensures)
    (first-none g.W.World g.C.Caller c.args.task c.args.caller.now c.first_turn.new.caller c.loop-end.state c.in-Ok.first.told c.in-Ok.first.going c.in-None.is
    (c.in-Ok.ensures.goes_on c.args.task c.args.caller.now c.loop-end.invariant.0.asking)).1

pub returns-in-Err-clause-attempt : goal.returns-in-Err-clause-attempt
returns-in-Err-clause-attempt g c = c.in-Err.ensures.attempt ∙ c.loop-end.invariant.2

pub returns-in-Some-clause-attempt : goal.returns-in-Some-clause-attempt
returns-in-Some-clause-attempt g c = c.in-Ok.ensures.attempt ∙ c.loop-end.invariant.2
