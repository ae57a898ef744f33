-- The faults of states as those of calls, by which they are counted and listed.
use Rattle.std.specs.Prelude.{Result, Ok, Err}
use Rattle.rx_world.specs.declared.call_faults.CallFault.{CallFault}
use Rattle.rx_world.specs.declared.call_faults.CallFault.TheVariants.{Status}
use Rattle.rx_exec_messages.specs.declared.state_faults.StateFault.{StateFault}
use Rattle.rx_exec_messages.specs.declared.state_faults.StateFault.TheVariants.{Over, Stream}

-- an execution that is over failed with its status
abbrev pub call_fault : StateFault → CallFault
call_fault (Stream fault) = fault
call_fault (Over code) = Status code

-- an answer with its fault as that of a call
abbrev pub as_call : {A : Type 0} → Result A StateFault → Result A CallFault
as_call (Ok x) = Ok x
as_call (Err fault) = Err (call_fault fault)
