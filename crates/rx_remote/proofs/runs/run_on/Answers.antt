use Rattle.std.proofs.Common.{◌∙◌, refl}
use Rattle.rx_remote.specs.Actions.{stored_of}
use Rattle.rx_remote.proofs.LoopLemmas.{any-then, gone-ended, gone-lowers, gone-on, gone-start, own-after}
use Rattle.rx_remote.proofs.StopTold.{ends-since}
use Rattle.rx_remote.proofs.runs.run_on.Goals as goal

pub loop-end-init : goal.loop-end-init
loop-end-init g c = (
  gone-start g.W.World g.C.Caller g.S.Sources c.args.action.now.digest (stored_of c.args.action.now) c.args.action.now.job.files.now
      c.args.caller.now c.args.sources.now c.args.going c.requires.begun,
  refl,
  refl,
)

pub take_turn-requires-clause-begun : goal.take_turn-requires-clause-begun
take_turn-requires-clause-begun g c = c.loop-end.invariant.0.begun

pub loop-end-preserved : goal.loop-end-preserved
loop-end-preserved g c = (
  gone-on g.W.World g.C.Caller g.S.Sources c.args.action.now.digest (stored_of c.args.action.now) c.args.action.now.job.files.now
      c.args.caller.now c.loop-end.caller c.take_turn.new.caller c.args.sources.now c.loop-end.sources c.take_turn.new.sources c.args.going c.loop-end.going c.in-Ok.next
      c.loop-end.invariant.0 c.in-Ok.ensures.goes_on c.in-Ok.ensures.exchanged c.in-Ok.ensures.reads,
  c.in-Ok.ensures.same ∙ c.loop-end.invariant.1,
  c.in-Ok.ensures.attempt ∙ c.loop-end.invariant.2,
)

pub loop-end-smaller : goal.loop-end-smaller
loop-end-smaller g c =
    gone-lowers g.W.World g.C.Caller g.S.Sources c.args.action.now.digest (stored_of c.args.action.now) c.args.action.now.job.files.now
    c.args.caller.now c.loop-end.caller c.take_turn.new.caller c.args.sources.now c.loop-end.sources c.args.going c.loop-end.going c.in-Ok.next
    c.loop-end.invariant.0 c.in-Ok.ensures.goes_on

pub returns-in-Err-clause-ended : goal.returns-in-Err-clause-ended
returns-in-Err-clause-ended g c =
    gone-ended g.W.World g.C.Caller g.S.Sources c.args.action.now.digest (stored_of c.args.action.now) c.args.action.now.job.files.now
    c.args.caller.now c.loop-end.caller c.take_turn.new.caller c.args.sources.now c.loop-end.sources c.args.going c.loop-end.going c.in-Err.end
    c.loop-end.invariant.0 c.in-Err.ensures.ended

pub returns-in-Err-clause-exchanged : goal.returns-in-Err-clause-exchanged
returns-in-Err-clause-exchanged g c =
    any-then g.C.Caller c.args.caller.now c.loop-end.caller c.take_turn.new.caller c.loop-end.invariant.0.exchanged c.in-Err.ensures.exchanged

pub returns-in-Err-clause-own : goal.returns-in-Err-clause-own
returns-in-Err-clause-own g c =
    own-after g.W.World g.S.Sources c.args.action.now.job.files.now c.args.sources.now c.loop-end.sources c.take_turn.new.sources (g.T.Stop.told c.take_turn.new.stop) c.in-Err.end
    c.loop-end.invariant.0.reads c.in-Err.ensures.reads

pub returns-in-Err-clause-stop : goal.returns-in-Err-clause-stop
returns-in-Err-clause-stop g c =
    ends-since (g.T.Stop.told c.args.stop.now) (g.T.Stop.told c.loop-end.stop) (g.T.Stop.told c.take_turn.new.stop) c.in-Err.end c.loop-end.invariant.1 c.in-Err.ensures.told

pub returns-in-Err-clause-attempt : goal.returns-in-Err-clause-attempt
returns-in-Err-clause-attempt g c = c.in-Err.ensures.attempt ∙ c.loop-end.invariant.2
