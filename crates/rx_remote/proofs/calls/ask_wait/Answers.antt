use Rattle.std.proofs.Common.{ℕ, List, [], ◌∷◌, ap}
use Rattle.std.specs.Prelude.{Err}
use Rattle.rx_exec_messages.specs.declared.exchanges.Exchange.TheVariants as calls
use Rattle.rx_remote.specs.declared.asks.Ask.TheVariants as asks
use Rattle.rx_remote.proofs.CallTurns.{failed-turn}
use Rattle.rx_remote.proofs.calls.ask_wait.Goals as goal

pub returns-in-Err-clause-turn : goal.returns-in-Err-clause-turn
returns-in-Err-clause-turn g c action stored =
    failed-turn g.W.World g.C.Caller action stored (asks.Wait c.args.name.now) c.args.caller.now c.wait.new.self c.in-Err.fault (calls.Wait c.as_str.result.now (Err c.in-Err.fault)) tt
    (ap (λ (name : List ℕ). calls.Wait name (Err c.in-Err.fault) ∷ []) c.as_str.ensures)
    c.in-Err.ensures.told c.in-Err.ensures.stays c.in-Err.ensures.cause
