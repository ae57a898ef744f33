-- What a call of one message gives, by what the channel answered.
use Rattle.std.specs.Prelude.{ℕ, List, Result, Ok, Err}
use Rattle.rx_wire.specs.declared.faults.WireFault.{WireFault}
use Rattle.rx_wire.specs.declared.faults.WireFault.TheVariants.{Truncated, VarintTooLong, BadType, ZeroField, BadUtf8}
use Rattle.rx_codec.specs.declared.faults.MessageFault.{MessageFault}
use Rattle.rx_codec.specs.declared.faults.MessageFault.TheVariants as Refusals
use Rattle.rx_world.specs.declared.call_faults.CallFault.{CallFault}
use Rattle.rx_world.specs.declared.call_faults.CallFault.TheVariants as Faults
use Rattle.rx_grpc.specs.declared.answer.Answer.{Answer}
use Rattle.rx_grpc.specs.declared.answer.Answer.TheVariants as Answers
use Rattle.rx_grpc.specs.declared.transfer_fault.TransferFault.{TransferFault}
use Rattle.rx_grpc.specs.declared.transfer_fault.TransferFault.TheVariants.{Link, Protocol, NoMemory}

-- what the channel answered
abbrev pub Heard : Type 0
Heard = Result Answer TransferFault

-- the first byte that is wrong
abbrev pub place_of : WireFault → ℕ
place_of (Truncated at) = at
place_of (VarintTooLong at) = at
place_of (BadType at) = at
place_of (ZeroField at) = at
place_of (BadUtf8 at) = at

-- a message that is refused; a value or a form that is refused has no place
abbrev pub refused : MessageFault → CallFault
refused (Refusals.Wire fault) = Faults.BadMessage (place_of fault)
refused Refusals.NotCanonical = Faults.BadMessage 0
refused (Refusals.BadValue number) = Faults.BadMessage 0
refused Refusals.NoMemory = Faults.NoMemory

abbrev pub read : {M : Type 0} → Result M MessageFault → Result M CallFault
read (Ok message) = Ok message
read (Err fault) = Err (refused fault)

-- the transport has no answer
abbrev pub failed : TransferFault → CallFault
failed Link = Faults.Link
failed (Protocol code) = Faults.Protocol code
failed NoMemory = Faults.NoMemory

-- a message is decoded; all else is a fault
abbrev pub reply : {M : Type 0} → (List ℕ → Result M MessageFault) → Heard → Result M CallFault
reply decode (Ok (Answers.Message message)) = read (decode message)
reply decode (Ok (Answers.Status code)) = Err (Faults.Status code)
reply decode (Ok Answers.Compressed) = Err Faults.Compressed
reply decode (Ok Answers.TooLarge) = Err Faults.TooLarge
reply decode (Ok Answers.NoStatus) = Err Faults.NoStatus
reply decode (Ok Answers.BadMessage) = Err (Faults.BadMessage 0)
reply decode (Err fault) = Err (failed fault)
