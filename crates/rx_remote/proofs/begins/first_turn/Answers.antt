use Rattle.std.proofs.Common.{◌≢◌, ◌∙◌, [], Option, inr, subst, sym}
use Rattle.rx_base.specs.Digests.{digest_of}
use Rattle.rx_exec_messages.specs.declared.answers.Capabilities.{Capabilities as FarmCapabilities}
use Rattle.rx_remote.specs.declared.asks.Ask.{Ask}
use Rattle.rx_remote.specs.declared.asks.Ask.TheVariants.{Capabilities}
use Rattle.rx_remote.specs.declared.phases.Phase.TheVariants as phases
use Rattle.rx_remote.specs.Ends.{stop_heard}
use Rattle.rx_remote.specs.Grown.{IsPart}
use Rattle.rx_remote.specs.Marks.{phase_of}
use Rattle.rx_remote.specs.Runs.{FirstGoesOn}
use Rattle.rx_remote.proofs.FirstLemmas.{first-ends, first-turns}
use Rattle.rx_remote.proofs.LoopLemmas.{any-exchanged}
use Rattle.rx_remote.proofs.ReadLemmas.{own-end}
use Rattle.rx_remote.proofs.RunLemmas.{next-is, not-ended}
use Rattle.rx_remote.proofs.StopTold.{end-tells, memory-tells, on-tells}
use Rattle.rx_remote.proofs.begins.first_turn.Goals as goal

pub returns-in-End-clause-ended : goal.returns-in-End-clause-ended
returns-in-End-clause-ended g c task old a =
    inr (first-ends g.W.World g.C.Caller task old c.args.caller.now c.first_heard-heard.new.caller c.args.state c.in-Ok.next c.in-Ok.now c.first_heard-heard.result
    c.in-End.end c.first_heard-heard.ensures.turn a (c.in-Ok.ensures.step task a.history (a.running (digest_of []) []).going.state_is) c.in-End.is)

pub returns-in-End-clause-exchanged : goal.returns-in-End-clause-exchanged
returns-in-End-clause-exchanged g c =
    any-exchanged g.C.Caller (IsPart (digest_of []) [] Capabilities c.first_heard-heard.result) c.args.caller.now c.first_heard-heard.new.caller
    (c.first_heard-heard.ensures.turn (digest_of []) []).exchanged

pub returns-in-End-clause-own : goal.returns-in-End-clause-own
returns-in-End-clause-own g c task old a =
    let r = a.running (digest_of []) [] in
    own-end [] [] 0 0 (g.T.Stop.told c.first_heard-heard.new.stop) task Capabilities c.in-Ok.now c.first_heard-heard.result a.history c.in-End.end
    c.first_heard-heard.ensures.own
    (next-is task a.history Capabilities c.in-Ok.now c.first_heard-heard.result c.in-Ok.next r.going.ask_is (c.in-Ok.ensures.step task a.history r.going.state_is)) c.in-End.is

pub returns-in-End-clause-stop : goal.returns-in-End-clause-stop
returns-in-End-clause-stop g c task old a =
    let r = a.running (digest_of []) [] in
    end-tells (g.T.Stop.told c.args.stop.now) (g.T.Stop.told c.first_heard-heard.new.stop) task Capabilities c.first_heard-heard.result a.history c.in-End.end
    c.first_heard-heard.ensures.stop
    (sym (next-is task a.history Capabilities c.in-Ok.now c.first_heard-heard.result c.in-Ok.next r.going.ask_is (c.in-Ok.ensures.step task a.history r.going.state_is))
    ∙ c.in-End.is)

pub returns-in_default-clause-stop : goal.returns-in_default-clause-stop
returns-in_default-clause-stop g c task old a =
    memory-tells (g.T.Stop.told c.args.stop.now) (g.T.Stop.told c.first_heard-heard.new.stop) (stop_heard c.first_heard-heard.result) c.no_memory.result
    c.no_memory.ensures c.in_default.ensures.stops c.first_heard-heard.ensures.stop

pub returns-in_default-now : goal.returns-in_default-now
returns-in_default-now g c = record {
  goes_on = λ task old a.
      subst (λ (t : Option FarmCapabilities). FirstGoesOn g.W.World g.C.Caller task old c.first_heard-heard.new.caller c.args.state t (record { state = c.in-Ok.next; ask = c.in-Ok.now }))
      (sym c.told_in-told.ensures)
      (first-turns g.W.World g.C.Caller task old c.args.caller.now c.first_heard-heard.new.caller c.args.state c.in-Ok.next c.in-Ok.now c.first_heard-heard.result
      c.first_heard-heard.ensures.told c.first_heard-heard.ensures.turn a (c.in-Ok.ensures.step task a.history (a.running (digest_of []) []).going.state_is)
      (not-ended c.in-Ok.now c.in_default-now.not-End));
  ended = tt;
  exchanged = any-exchanged g.C.Caller (IsPart (digest_of []) [] Capabilities c.first_heard-heard.result) c.args.caller.now c.first_heard-heard.new.caller
      (c.first_heard-heard.ensures.turn (digest_of []) []).exchanged;
  own = tt;
  same = λ task old a.
      let r = a.running (digest_of []) [] in
      on-tells (g.T.Stop.told c.args.stop.now) (g.T.Stop.told c.first_heard-heard.new.stop) task Capabilities c.first_heard-heard.result a.history
      c.first_heard-heard.ensures.stop
      (subst (λ (x : Ask). phase_of x ≢ phases.Ended)
      (next-is task a.history Capabilities c.in-Ok.now c.first_heard-heard.result c.in-Ok.next r.going.ask_is (c.in-Ok.ensures.step task a.history r.going.state_is))
      (not-ended c.in-Ok.now c.in_default-now.not-End));
  stop = tt;
  attempt = c.first_heard-heard.ensures.attempt;
}

pub returns-in_default-clause-exchanged : goal.returns-in_default-clause-exchanged
returns-in_default-clause-exchanged g c =
    any-exchanged g.C.Caller (IsPart (digest_of []) [] Capabilities c.first_heard-heard.result) c.args.caller.now c.first_heard-heard.new.caller
    (c.first_heard-heard.ensures.turn (digest_of []) []).exchanged
