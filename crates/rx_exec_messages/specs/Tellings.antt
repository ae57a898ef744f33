-- The exchanges that a script tells.
use Rattle.rx_exec_messages.specs.declared.exchanges.Exchange.{Exchange}
use Rattle.rx_exec_messages.specs.declared.exchanges.Exchange.TheVariants as exchanges
use Rattle.rx_exec_messages.specs.declared.told.Call.{Call}
use Rattle.rx_exec_messages.specs.declared.told.Call.TheVariants.{Capabilities, Execute, FindMissing}
use Rattle.rx_exec_messages.specs.declared.told.Call.TheVariants.{GetResult, NextOperation, Read}
use Rattle.rx_exec_messages.specs.declared.told.Call.TheVariants.{ReadStream, Update, Wait, WriteStream}

-- a call with its answer
abbrev pub exchange_of : Call → Exchange
exchange_of (Capabilities answer) = exchanges.Capabilities answer.value
exchange_of (GetResult action answer) = exchanges.GetResult action answer.value
exchange_of (FindMissing digests answer) = exchanges.FindMissing digests answer.value
exchange_of (Update blobs answer) = exchanges.Update blobs answer.value
exchange_of (Read digests answer) = exchanges.Read digests answer.value
exchange_of (WriteStream digest bytes answer) = exchanges.WriteStream digest bytes answer.value
exchange_of (ReadStream digest answer) = exchanges.ReadStream digest answer.value
exchange_of (Execute action skip answer) = exchanges.Execute action skip answer.value
exchange_of (Wait name answer) = exchanges.Wait name answer.value
exchange_of (NextOperation answer) = exchanges.NextOperation answer.value
