-- What a call has heard of its answer, event by event and byte by byte (PROTOCOL-HTTP2.md of gRPC, "Responses"): a header
-- list, messages, and trailers; or trailers alone.
use Rattle.std.specs.Prelude.{ℕ, Bool, List, [], ◌∷◌, ◌++◌, ◌==◌, Option, None, Some, if◌then◌else◌, codes}
use Rattle.rx_hpack.specs.Header.{Field}
use Rattle.rx_h2conn.specs.Session.{Event, Headers, Bytes, Reset, Gone}
use Rattle.rx_grpc.specs.declared.head.Head.{Head}
use Rattle.rx_grpc.specs.declared.head.Head.TheVariants.{Waiting, Success, Failure}
use Rattle.rx_grpc.specs.declared.end.End.{End}
use Rattle.rx_grpc.specs.declared.end.End.TheVariants.{Status, Compressed, TooLarge, NoStatus}
use Rattle.rx_grpc.specs.Texts.{head_of, is_interim, value_of, status_text_of, status_number, reset_status}
use Rattle.rx_grpc.specs.Framing.{Next, Whole, Lacks, IsCompressed, IsTooLarge, next_message}

pub record Heard : Type 0 where
  pub head : Head
  pub rest : List ℕ  -- the bytes since the last whole message
  pub messages : List (List ℕ)  -- the whole messages that weren't handed out, in order
  pub end : Option End  -- what ended the answer: nothing after it counts
  pub status_text : List ℕ  -- `grpc-message` of the list that ended it, as it was sent
  pub details : Option (List ℕ)  -- `grpc-status-details-bin` of that list, as it was sent, where the status isn't 0

abbrev pub nothing : Heard
nothing = record { head = Waiting; rest = []; messages = []; end = None; status_text = []; details = None }

abbrev pub ended_by : Heard → End → Heard
ended_by h end = record h { end = Some end }

abbrev pub unless_ended : Option End → Heard → Heard → Heard
unless_ended None h new = new
unless_ended (Some end) h new = h

-- a whole message is taken
abbrev pub judged : Heard → Next → Heard
judged h (Whole message) = record h { messages = h.messages ++ message ∷ []; rest = [] }
judged h (Lacks n) = h
judged h IsCompressed = record h { rest = []; end = Some Compressed }
judged h IsTooLarge = record h { rest = []; end = Some TooLarge }

unfoldable pub settled : Heard → Heard
settled h = judged h (next_message h.rest)

abbrev pub more : Heard → List ℕ → Heard
more h bytes = record h { rest = h.rest ++ bytes }

unfoldable pub byte : Heard → ℕ → Heard
byte h b = unless_ended h.end h (settled (more h (b ∷ [])))

-- by single bytes, so that the cutting can't count
abbrev pub read : Heard → List ℕ → Heard
read h [] = h
read h (b ∷ bytes) = read (byte h b) bytes

-- Only the bytes of an answer whose HTTP status is 200 are messages: those of another may be a page for a browser.
abbrev pub read_by : Head → Heard → List ℕ → Heard
read_by Success h bytes = read h bytes
read_by Waiting h bytes = h
read_by (Failure code) h bytes = h

abbrev pub bytes_read : Heard → List ℕ → Heard
bytes_read h bytes = read_by h.head h bytes

-- the stream ended without a status of the call
abbrev pub end_by : Head → End
end_by Waiting = Status 2
end_by Success = NoStatus
end_by (Failure code) = Status code

abbrev pub closed : Heard → Heard
closed h = unless_ended h.end h (ended_by h (end_by h.head))

abbrev pub closed_if : Bool → Heard → Heard
closed_if last h = if last then closed h else h

-- the first header list that isn't interim tells the HTTP status
abbrev pub headed : Head → List Field → Head
headed Waiting list = head_of list
headed Success list = Success
headed (Failure code) list = Failure code

abbrev pub end_of : Option (List ℕ) → Head → End
end_of None head = end_by head
end_of (Some text) head = Status (status_number text)

-- the details of a status come with it, where it isn't 0
abbrev pub details_of : End → List Field → Option (List ℕ)
details_of (Status code) list = if code == 0 then None else value_of (codes "grpc-status-details-bin") list
details_of Compressed list = None
details_of TooLarge list = None
details_of NoStatus list = None

-- the trailers, or an answer of headers alone ("Trailers-Only")
abbrev pub trailed : Heard → List Field → Heard
trailed h list = record h {
  head = headed h.head list;
  end = Some (end_of (value_of (codes "grpc-status") list) (headed h.head list));
  status_text = status_text_of list;
  details = details_of (end_of (value_of (codes "grpc-status") list) (headed h.head list)) list;
}

abbrev pub listed : Heard → List Field → Bool → Heard
listed h list last =
    if last then trailed h list
    else if is_interim list then h
    else record h { head = headed h.head list }

-- a GOAWAY that leaves the call's stream out: the server hasn't acted on it (RFC 9113 6.8)
abbrev pub told : Heard → Event → Heard
told h (Headers stream list last) = listed h list last
told h (Bytes stream bytes last) = closed_if last (bytes_read h bytes)
told h (Reset stream code) = ended_by h (Status (reset_status code))
told h (Gone last) = ended_by h (Status 14)

unfoldable pub step : Heard → Event → Heard
step h event = unless_ended h.end h (told h event)

-- the events of a call's stream, one after another
abbrev pub heard : Heard → List Event → Heard
heard h [] = h
heard h (event ∷ events) = heard (step h event) events
