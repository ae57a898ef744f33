-- A farm's client that answers by a script may go to another thread. A search for this at a call that names much else
-- takes too many steps, since the script's log holds the logs before it.
use denote.Param.Send.{IsSend, sendable}
use Rattle.std.proofs.Crossing.{crosses}
use Rattle.rx_exec_messages.proofs.script_state.ScriptState.TheSendSync as state
use Rattle.rx_exec_messages.proofs.trace.Trace.TheLaws.TheKnot as log
use Rattle.rx_exec_messages.specs.contracts.script.Script.{the_row}

pub script_send : IsSend the_row
script_send = search (state.the_field_send, log.send-Trace, crosses, sendable) depth 40
