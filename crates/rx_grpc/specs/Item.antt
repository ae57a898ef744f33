-- What a streamed answer shows next, by what was heard and not handed out.
use Rattle.std.specs.Prelude.{ℕ, ◌+◌, Bool, true, false, not, List, [], ◌∷◌, length, drop, Option, None, Some, if◌then◌else◌, ◌==◌}
use Rattle.rx_grpc.specs.declared.end.End.{End}
use Rattle.rx_grpc.specs.declared.end.End.TheVariants as Ends
use Rattle.rx_grpc.specs.declared.stream_item.StreamItem.{StreamItem}
use Rattle.rx_grpc.specs.declared.stream_item.StreamItem.TheVariants.{Message, Success, Status, Compressed, TooLarge, NoStatus, LinkEnd}
use Rattle.rx_grpc.specs.Heard.{Heard}

-- behind the last message; cut tells that the front of a message stands there
abbrev pub item_of_end : End → Bool → StreamItem
item_of_end (Ends.Status code) cut = if code == 0 then Success cut else Status code
item_of_end Ends.Compressed cut = Compressed
item_of_end Ends.TooLarge cut = TooLarge
item_of_end Ends.NoStatus cut = NoStatus

abbrev pub item_at_end : Option End → Bool → Bool → Option StreamItem
item_at_end None cut true = Some LinkEnd
item_at_end None cut false = None
item_at_end (Some end) cut ended = Some (item_of_end end cut)

-- the messages first, in order, and then the end
abbrev pub item_by : List (List ℕ) → Option End → Bool → Bool → Option StreamItem
item_by (message ∷ messages) end cut ended = Some (Message message)
item_by [] end cut ended = item_at_end end cut ended

-- ended tells that nothing more comes; what ended the answer goes before that
abbrev pub item : Bool → Heard → Option StreamItem
item ended h = item_by h.messages h.end (not (length h.rest == 0)) ended

-- item number place of an answer of which everything was heard: so many messages stand before it
abbrev pub item_behind : ℕ → Bool → Heard → Option StreamItem
item_behind place ended h = item ended (record h { messages = drop place h.messages })

abbrev pub is_message : StreamItem → Bool
is_message (Message message) = true
is_message (Success cut) = false
is_message (Status code) = false
is_message Compressed = false
is_message TooLarge = false
is_message NoStatus = false
is_message LinkEnd = false

-- a message is handed out
abbrev pub after_item : Option StreamItem → Heard → Heard
after_item None h = h
after_item (Some item) h = if is_message item then record h { messages = drop 1 h.messages } else h

abbrev pub place_after : Option StreamItem → ℕ → ℕ
place_after None place = place
place_after (Some item) place = if is_message item then place + 1 else place
