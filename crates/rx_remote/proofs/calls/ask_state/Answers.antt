use Rattle.std.proofs.Common.{refl}
use Rattle.std.specs.Prelude.{Err}
use Rattle.rx_exec_messages.specs.declared.exchanges.Exchange.TheVariants as calls
use Rattle.rx_exec_messages.specs.declared.state_faults.StateFault.TheVariants as states
use Rattle.rx_remote.specs.declared.asks.Ask.TheVariants as asks
use Rattle.rx_remote.proofs.CallTurns.{failed-turn, over-turn}
use Rattle.rx_remote.proofs.calls.ask_state.Goals as goal

pub returns-in-Err-Stream-clause-turn : goal.returns-in-Err-Stream-clause-turn
returns-in-Err-Stream-clause-turn g c action stored =
    failed-turn g.W.World g.C.Caller action stored asks.NextOperation c.args.caller.now c.next_operation.new.self c.in-Err-Stream.fault
    (calls.NextOperation (Err (states.Stream c.in-Err-Stream.fault))) tt refl (rw c.in-Err-Stream.field-0-is at c.in-Err-Stream.ensures.told) c.in-Err-Stream.ensures.stays
    (rw c.in-Err-Stream.field-0-is at c.in-Err-Stream.ensures.cause)

pub returns-in-Err-Over-clause-turn : goal.returns-in-Err-Over-clause-turn
returns-in-Err-Over-clause-turn g c action stored =
    over-turn g.W.World g.C.Caller action stored c.args.caller.now c.next_operation.new.self c.in-Err-Over.code (rw c.in-Err-Over.field-0-is at c.in-Err-Over.ensures.told)
    c.in-Err-Over.ensures.stays (rw c.in-Err-Over.field-0-is at c.in-Err-Over.ensures.cause)
