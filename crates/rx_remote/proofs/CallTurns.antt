-- A call that failed, as a turn, and an execution that did.
use Rattle.std.proofs.Common.{◌∙◌, ℕ, List, [], ◌∷◌, refl, sym, ap}
use Rattle.std.specs.Prelude.{Err}
use Rattle.rx_base.specs.declared.digests.Digest.{Digest}
use Rattle.rx_world.specs.declared.call_faults.CallFault.{CallFault}
use Rattle.rx_world.specs.declared.call_faults.CallFault.TheVariants.{Status}
use Rattle.rx_world.specs.declared.world.World as world
use Rattle.rx_exec_messages.specs.declared.callers.Caller as callers
use Rattle.rx_exec_messages.specs.declared.exchanges.Exchange.{Exchange}
use Rattle.rx_exec_messages.specs.declared.exchanges.Exchange.TheVariants as calls
use Rattle.rx_exec_messages.specs.declared.state_faults.StateFault.TheVariants as states
use Rattle.rx_exec_messages.specs.Calls.{AddsCall, HasCallCause, Stays}
use Rattle.rx_exec_messages.proofs.ExchangedLemmas.{one-exchange}
use Rattle.rx_remote.specs.declared.asks.Ask.{Ask}
use Rattle.rx_remote.specs.declared.asks.Ask.TheVariants.{NextOperation}
use Rattle.rx_remote.specs.declared.asks.Heard.TheVariants.{Fault, Over}
use Rattle.rx_remote.specs.Faults.{is_no_memory}
use Rattle.rx_remote.specs.Grown.{IsFailedCall, IsPart}
use Rattle.rx_remote.specs.Legal.{IsCall}
use Rattle.rx_remote.specs.Marks.{phase_of}
use Rattle.rx_remote.specs.Turns.{IsTurn}

pub failed-turn : {C W T : Type 0} (w : world.Ghosts W) (c : callers.Ghosts C W) (action : Digest) (stored : List Digest) (ask : Ask) (old new : C) (fault : CallFault)
    (exchange : Exchange) → IsCall (phase_of ask) → IsFailedCall action ask fault (exchange ∷ []) →
    AddsCall (c.conversation old) (c.conversation new) exchange → Stays c.vouches c.genuine c.dialect old new → HasCallCause {T = T} (c.faults old) (c.faults new) (Err fault) →
    IsTurn w c action stored ask old new (Fault fault)
failed-turn w c action stored ask old new fault exchange call failed told stays cause = record {
  fits = call;
  honest = λ command outcome genuine vouches runs. tt;
  names = λ genuine. tt;
  runs = tt;
  streams = λ under_way. absurd under_way;
  exchanged = one-exchange c (IsPart action stored ask (Fault fault)) old new exchange (Err fault) told stays cause failed;
  counted = λ listed. cause.failed (λ e. cc (sym listed ∙ ap is_no_memory e));
}

pub over-turn : {C W T : Type 0} (w : world.Ghosts W) (c : callers.Ghosts C W) (action : Digest) (stored : List Digest) (old new : C) (code : ℕ) →
    AddsCall (c.conversation old) (c.conversation new) (calls.NextOperation (Err (states.Over code))) → Stays c.vouches c.genuine c.dialect old new →
    HasCallCause {T = T} (c.faults old) (c.faults new) (Err (Status code)) → IsTurn w c action stored NextOperation old new (Over code)
over-turn w c action stored old new code told stays cause = record {
  fits = refl;
  honest = λ command outcome genuine vouches runs. tt;
  names = λ genuine. tt;
  runs = tt;
  streams = λ under_way. absurd under_way;
  exchanged = one-exchange c (IsPart action stored NextOperation (Over code)) old new (calls.NextOperation (Err (states.Over code))) (Err (Status code)) told stays cause refl;
  counted = cause.failed (λ e. cc e);
}
