use Rattle.std.proofs.Common.{refl}
use Rattle.std.specs.Prelude.{Err}
use Rattle.rx_exec_messages.specs.declared.exchanges.Exchange.TheVariants as calls
use Rattle.rx_remote.specs.declared.asks.Ask.TheVariants as asks
use Rattle.rx_remote.proofs.CallTurns.{failed-turn}
use Rattle.rx_remote.proofs.calls.ask_cache.Goals as goal

pub returns-in-Err-clause-turn : goal.returns-in-Err-clause-turn
returns-in-Err-clause-turn g c stored =
    failed-turn g.W.World g.C.Caller c.args.action.now stored asks.GetResult c.args.caller.now c.get_result.new.self c.in-Err.fault (calls.GetResult c.args.action.now (Err c.in-Err.fault)) tt refl
    c.in-Err.ensures.told c.in-Err.ensures.stays c.in-Err.ensures.cause
