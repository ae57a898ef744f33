-- Frames: a kind byte, a length in four bytes, the highest first, and so many bytes of payload.
use Rattle.std.specs.Prelude.{◌≡◌, ℕ, ◌+◌, ◌-◌, ◌^◌, ◌≤◌, ◌==◌, ◌||◌, not, Bool, false, min, nat_lt, List, [], ◌∷◌, ◌++◌, length, take, drop, Option, Result, Ok, Err, if◌then◌else◌, slice_index}
use Rattle.std.specs.Int.{w32, to_be_bytes, from_be_bytes}
use Rattle.std.specs.Io.KnownBytes.{IsAtEnd}
use Rattle.rx_base.specs.Results.{◌>>=◌}
use Rattle.rx_wire.specs.declared.faults.WireFault.{WireFault}
use Rattle.rx_wire.specs.declared.faults.WireFault.TheVariants.{Truncated, VarintTooLong, BadType, ZeroField, BadUtf8}
use Rattle.rx_codec.specs.declared.faults.MessageFault.{MessageFault}
use Rattle.rx_codec.specs.declared.faults.MessageFault.TheVariants as messages
use Rattle.rx_session.specs.declared.bad.Bad.{Bad}
use Rattle.rx_session.specs.declared.bad.BadReason.TheVariants.{CutShort, BadKind, TooLong, BadMessage, Trailing}
use Rattle.rx_session.specs.declared.bad.SessionFault.{SessionFault}
use Rattle.rx_session.specs.declared.bad.SessionFault.TheVariants as faults
use Rattle.rx_session.specs.declared.frames.Incoming.{Incoming}
use Rattle.rx_session.specs.declared.frames.Incoming.TheVariants as incomings
use Rattle.rx_session.specs.declared.headers.Head.{Head}
use Rattle.rx_session.specs.declared.headers.Head.TheVariants as heads
use Rattle.rx_session.specs.declared.requests.Request.{Request}
use Rattle.rx_session.specs.Bad.{bad}
use Rattle.rx_session.specs.Messages.{raw_request_of}
use Rattle.rx_session.specs.Rules.{request_by}

-- the bytes of a frame
abbrev pub frame : ℕ → List ℕ → List ℕ
frame kind payload = kind ∷ (to_be_bytes w32 (length payload) ++ payload)

-- the frame that asks the proxy to end, and the one that answers it
abbrev pub shutdown : List ℕ
shutdown = frame 4 []

abbrev pub shutdown_done : List ℕ
shutdown_done = frame 5 []

-- the most bytes of a Request's payload
abbrev pub longest_payload : ℕ
longest_payload = 4194304

-- the offset that a refusal names
abbrev pub offset_of : WireFault → ℕ
offset_of (Truncated at) = at
offset_of (VarintTooLong at) = at
offset_of (BadType at) = at
offset_of (ZeroField at) = at
offset_of (BadUtf8 at) = at

-- A message is refused by its place in the frame, behind the five bytes of the header. (A place past 64 bits can't come in a payload, and a
-- Request, which has no digest and more than one form, has no refusals but those of the wire format.)
abbrev pub or_bad_message : {X : Type 0} → Result X MessageFault → Result X Bad
or_bad_message (Ok x) = Ok x
or_bad_message (Err (messages.Wire fault)) = Err (bad BadMessage (min (5 + offset_of fault) (2 ^ 64 - 1)))
or_bad_message (Err messages.NotCanonical) = Err (bad BadMessage 5)
or_bad_message (Err (messages.BadValue number)) = Err (bad BadMessage 5)
or_bad_message (Err messages.NoMemory) = Err (bad BadMessage 5)

-- the request in a payload
unfoldable pub payload_request : List ℕ → List ℕ → Result Request Bad
payload_request root payload = do
  raw ← or_bad_message (raw_request_of payload)
  request_by root raw

-- the length that a header tells
abbrev pub length_in : List ℕ → ℕ
length_in text = from_be_bytes w32 (take 4 (drop 1 text))

-- what follows the frame
abbrev pub behind : List ℕ → List ℕ
behind text = drop (5 + length_in text) text

-- a client's frame begins with one of these kinds
abbrev pub begins : ℕ → Bool
begins kind = kind == 1 || kind == 4

-- what one of these kinds and a length tell
abbrev pub head_by : ℕ → ℕ → Head
head_by kind len = if kind == 1 then heads.Request len else heads.Shutdown len

-- what the header tells, of bytes that begin with one
unfoldable pub head_in : List ℕ → Result Head Bad
head_in text =
    if nat_lt (length text) 5 then Err (bad CutShort (length text))
    else if not (begins (slice_index text 0)) then Err (bad BadKind 0)
    else if nat_lt longest_payload (length_in text) then Err (bad TooLong (length_in text))
    else Ok (head_by (slice_index text 0) (length_in text))

-- the payload's length
abbrev pub payload_length : Head → ℕ
payload_length (heads.Request len) = len
payload_length (heads.Shutdown len) = len

-- the payload has at most so many bytes
abbrev pub IsWithin : ℕ → Head → Type 0
IsWithin most head = payload_length head ≤ most

-- a request, where nothing follows its frame, or where it watches: then a Cancel may
abbrev pub alone : ℕ → List ℕ → Request → Result Request Bad
alone len text request =
    if request.watch then Ok request
    else if nat_lt (5 + len) (length text) then Err (bad Trailing (5 + len))
    else Ok request

-- the request in a frame whose payload has so many bytes
unfoldable pub request_within : List ℕ → ℕ → List ℕ → Result Request Bad
request_within root len text =
    if nat_lt (length text) (5 + len) then Err (bad CutShort (length text))
    else payload_request root (take len (drop 5 text)) >>= alone len text

-- a request that was found, as what comes in
abbrev pub or_request : Result Request Bad → Result Incoming Bad
or_request (Ok request) = Ok (incomings.Request request)
or_request (Err why) = Err why

-- A Shutdown whose payload has so many bytes: it may have none, and one that is cut short is told as that. What follows its frame doesn't count.
abbrev pub shutdown_within : ℕ → List ℕ → Result Incoming Bad
shutdown_within len text =
    if nat_lt (length text) (5 + len) then Err (bad CutShort (length text))
    else if nat_lt 0 len then Err (bad BadMessage 1)
    else Ok incomings.Shutdown

-- what comes in behind such a header
abbrev pub incoming_by : List ℕ → List ℕ → Head → Result Incoming Bad
incoming_by root text (heads.Request len) = or_request (request_within root len text)
incoming_by root text (heads.Shutdown len) = shutdown_within len text

-- What comes in by a client's bytes: the Request that they are, all of them, or the one that watches or the Shutdown with whose frame they
-- begin.
unfoldable pub incoming_of : List ℕ → List ℕ → Result Incoming Bad
incoming_of root text = do
  head ← head_in text
  incoming_by root text head

-- the bytes are this request, or begin with it where it watches
abbrev pub IsRequest : List ℕ → List ℕ → Request → Type 0
IsRequest root text request = incoming_of root text ≡ Ok (incomings.Request request)

-- The most bytes that are read: of a header that is refused no more than that, of a Shutdown its frame, and of a Request its frame and one byte
-- behind it.
abbrev pub reach_by : Result Head Bad → ℕ
reach_by (Ok (heads.Request len)) = 5 + len + 1
reach_by (Ok (heads.Shutdown len)) = 5 + len
reach_by (Err why) = 5

abbrev pub reach_of : List ℕ → ℕ
reach_of text = reach_by (head_in text)

-- Whether the end of the input was read: for a request that doesn't watch, and where the frame is cut short.
abbrev pub EndsRead : Option (List ℕ) → Result Incoming SessionFault → Type 0
EndsRead left (Ok (incomings.Request request)) = request.watch ≡ false → IsAtEnd left
EndsRead left (Ok incomings.Shutdown) = Unit {0}
EndsRead left (Err (faults.Bad why)) = why.reason ≡ CutShort → IsAtEnd left
EndsRead left (Err faults.ReadFault) = Unit {0}
EndsRead left (Err faults.NoMemory) = Unit {0}
