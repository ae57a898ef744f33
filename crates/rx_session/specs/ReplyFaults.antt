-- Refusals of a reply.
use Rattle.std.specs.Prelude.{Result, Ok, Err}
use Rattle.rx_codec.specs.declared.faults.MessageFault.{MessageFault}
use Rattle.rx_codec.specs.declared.faults.MessageFault.TheVariants as messages
use Rattle.rx_session.specs.declared.reply_fault.ReplyFault.{ReplyFault}
use Rattle.rx_session.specs.declared.reply_fault.ReplyFault.TheVariants.{Wire, BadReply, NoMemory}

-- no reply has this value
abbrev pub bad_reply : {X : Type 0} → Result X ReplyFault
bad_reply = Err BadReply

-- What the wire format refuses stays so, by its place. A digest whose value is bad is no reply's.
abbrev pub or_bad_reply : {X : Type 0} → Result X MessageFault → Result X ReplyFault
or_bad_reply (Ok x) = Ok x
or_bad_reply (Err (messages.Wire fault)) = Err (Wire fault)
or_bad_reply (Err messages.NotCanonical) = Err BadReply
or_bad_reply (Err (messages.BadValue number)) = Err BadReply
or_bad_reply (Err messages.NoMemory) = Err NoMemory
