-- The answer of a call that expects one message, by what was heard.
use Rattle.std.specs.Prelude.{ℕ, Bool, true, false, List, [], ◌∷◌, Option, None, Some, if◌then◌else◌, ◌==◌}
use Rattle.rx_grpc.specs.declared.end.End.{End}
use Rattle.rx_grpc.specs.declared.end.End.TheVariants as Ends
use Rattle.rx_grpc.specs.declared.answer.Answer.{Answer}
use Rattle.rx_grpc.specs.declared.answer.Answer.TheVariants.{Message, Status, Compressed, TooLarge, NoStatus, BadMessage}
use Rattle.rx_grpc.specs.Heard.{Heard}

-- of messages with status 0: one that is whole, and nothing else
abbrev pub only_message : List (List ℕ) → List ℕ → Answer
only_message (message ∷ []) [] = Message message
only_message _ _ = BadMessage

abbrev pub unary_by : Option End → Bool → Heard → Option Answer
unary_by None false h = None
unary_by None true h = Some NoStatus
unary_by (Some (Ends.Status code)) ended h = Some (if code == 0 then only_message h.messages h.rest else Status code)
unary_by (Some Ends.Compressed) ended h = Some Compressed
unary_by (Some Ends.TooLarge) ended h = Some TooLarge
unary_by (Some Ends.NoStatus) ended h = Some NoStatus

-- ended tells that nothing more comes; what ended the answer goes before that
abbrev pub unary : Bool → Heard → Option Answer
unary ended h = unary_by h.end ended h

-- a message is handed out
abbrev pub after_answer : Option Answer → Heard → Heard
after_answer (Some (Message message)) h = record h { messages = [] }
after_answer _ h = h
