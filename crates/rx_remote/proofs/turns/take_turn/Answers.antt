use Rattle.std.proofs.Common.{◌≢◌, ◌∙◌, inr, subst, sym}
use Rattle.rx_remote.specs.declared.asks.Ask.{Ask}
use Rattle.rx_remote.specs.declared.phases.Phase.TheVariants as phases
use Rattle.rx_remote.specs.Actions.{stored_of}
use Rattle.rx_remote.specs.Ends.{stop_heard}
use Rattle.rx_remote.specs.Grown.{IsPart}
use Rattle.rx_remote.specs.Fine.{IsEndOf}
use Rattle.rx_remote.specs.Marks.{phase_of}
use Rattle.rx_remote.specs.Reading.{HeardGives, IsOwnCause}
use Rattle.rx_remote.proofs.LoopLemmas.{any-exchanged, sorted-state}
use Rattle.rx_remote.proofs.ReadLemmas.{own-end, read-are}
use Rattle.rx_remote.proofs.RunEnds.{under-ends, under-on}
use Rattle.rx_remote.proofs.RunLemmas.{next-is, not-ended}
use Rattle.rx_remote.proofs.StopTold.{end-tells, memory-tells, on-tells}
use Rattle.rx_remote.proofs.turns.take_turn.Goals as goal

pub listen-heard-requires-clause-on : goal.listen-heard-requires-clause-on
listen-heard-requires-clause-on g c = c.requires.begun.under.running.on

pub listen-heard-requires-clause-streams : goal.listen-heard-requires-clause-streams
listen-heard-requires-clause-streams g c = c.requires.begun.under.running.going.streams

pub step-requires : goal.step-requires
step-requires g c =
    let b = c.requires.begun in sorted-state b.task c.args.going.state b.under.running.going.state_is.task_is b.sorted

pub returns-in-End-clause-ended : goal.returns-in-End-clause-ended
returns-in-End-clause-ended g c dialect task old u =
    inr (under-ends g.W.World g.C.Caller dialect c.args.action.now.digest (stored_of c.args.action.now) task old c.args.caller.now c.listen-heard.new.caller
    c.args.going c.in-Ok.next c.in-Ok.now c.listen-heard.result c.in-End.end u c.listen-heard.ensures.turn
    (c.in-Ok.ensures.step task u.history u.running.going.state_is) c.in-End.is)

pub returns-in-End-clause-reads : goal.returns-in-End-clause-reads
returns-in-End-clause-reads g c =
    let b = c.requires.begun in
    let s = c.in-Ok.ensures.step b.task b.under.history b.under.running.going.state_is in
    let told = g.T.Stop.told c.listen-heard.new.stop in
    let files = c.args.action.now.job.files.now in
    let before = g.S.Sources.faults c.args.sources.now in
    let now = g.S.Sources.faults c.listen-heard.new.sources in
    read-are g.W.World g.S.Sources files c.args.sources.now c.listen-heard.new.sources
    (λ answers. HeardGives (IsOwnCause files answers before now told) c.listen-heard.result)
    (λ answers. IsEndOf (IsOwnCause files answers before now told) c.in-End.end) c.listen-heard.ensures.reads
    (λ answers given. own-end files answers before now told b.task c.args.going.ask c.in-Ok.now c.listen-heard.result b.under.history c.in-End.end given
    (next-is b.task b.under.history c.args.going.ask c.in-Ok.now c.listen-heard.result c.in-Ok.next b.under.running.going.ask_is s) c.in-End.is)

pub returns-in-End-clause-told : goal.returns-in-End-clause-told
returns-in-End-clause-told g c =
    let b = c.requires.begun in
    let s = c.in-Ok.ensures.step b.task b.under.history b.under.running.going.state_is in
    end-tells (g.T.Stop.told c.args.stop.now) (g.T.Stop.told c.listen-heard.new.stop) b.task c.args.going.ask c.listen-heard.result b.under.history c.in-End.end
    c.listen-heard.ensures.told
    (sym (next-is b.task b.under.history c.args.going.ask c.in-Ok.now c.listen-heard.result c.in-Ok.next b.under.running.going.ask_is s) ∙ c.in-End.is)

pub returns-in_default-clause-told : goal.returns-in_default-clause-told
returns-in_default-clause-told g c =
    memory-tells (g.T.Stop.told c.args.stop.now) (g.T.Stop.told c.listen-heard.new.stop) (stop_heard c.listen-heard.result) c.no_memory.result c.no_memory.ensures
    c.in_default.ensures.stops c.listen-heard.ensures.told

pub returns : goal.returns
returns g c = record {
  goes_on = λ dialect task old u.
      under-on g.W.World g.C.Caller dialect c.args.action.now.digest (stored_of c.args.action.now) task old c.args.caller.now c.listen-heard.new.caller
      c.args.going c.in-Ok.next c.in-Ok.now c.listen-heard.result u c.listen-heard.ensures.turn
      (c.in-Ok.ensures.step task u.history u.running.going.state_is) (not-ended c.in-Ok.now c.in_default-now.not-End);
  ended = tt;
  exchanged = any-exchanged g.C.Caller (IsPart c.args.action.now.digest (stored_of c.args.action.now) c.args.going.ask c.listen-heard.result) c.args.caller.now c.listen-heard.new.caller
      c.listen-heard.ensures.turn.exchanged;
  reads = read-are g.W.World g.S.Sources c.args.action.now.job.files.now c.args.sources.now c.listen-heard.new.sources
      (λ answers. HeardGives (IsOwnCause c.args.action.now.job.files.now answers (g.S.Sources.faults c.args.sources.now) (g.S.Sources.faults c.listen-heard.new.sources)
      (g.T.Stop.told c.listen-heard.new.stop)) c.listen-heard.result)
      (λ answers. Unit {0}) c.listen-heard.ensures.reads (λ answers given. tt);
  same =
      let b = c.requires.begun in
      let s = c.in-Ok.ensures.step b.task b.under.history b.under.running.going.state_is in
      on-tells (g.T.Stop.told c.args.stop.now) (g.T.Stop.told c.listen-heard.new.stop) b.task c.args.going.ask c.listen-heard.result b.under.history
      c.listen-heard.ensures.told
      (subst (λ (a : Ask). phase_of a ≢ phases.Ended)
      (next-is b.task b.under.history c.args.going.ask c.in-Ok.now c.listen-heard.result c.in-Ok.next b.under.running.going.ask_is s)
      (not-ended c.in-Ok.now c.in_default-now.not-End));
  told = tt;
  attempt = c.listen-heard.ensures.attempt;
}
