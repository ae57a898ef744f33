-- What received bytes tell by themselves, whatever the client did meanwhile (RFC 9113 4, 6): header lists, bytes of
-- streams, resets and GOAWAY, in their order. Windows, and which streams are open, don't stand here.
use Rattle.std.specs.Prelude.{ℕ, ◌+◌, Bool, true, false, ◌&&◌, ◌||◌, not, List, [], ◌∷◌, ◌++◌, length, if◌then◌else◌, nat_lt, ◌==◌, Option, None, Some, Result, Ok, Err}
use Rattle.rx_hpack.specs.declared.fault.HpackFault.{HpackFault}
use Rattle.rx_hpack.specs.Decoder.{State, Ready, Refused, Progress}
use Rattle.rx_h2frame.specs.declared.frame.FrameFault.{FrameFault}
use Rattle.rx_h2frame.specs.declared.kind.Kind.{Kind}
use Rattle.rx_h2frame.specs.declared.kind.Kind.TheVariants.{Data, Headers, Priority, ResetStream, Settings, PushPromise, Ping, GoAway, WindowUpdate, Continuation, Unknown}
use Rattle.rx_h2frame.specs.Flags.{is_set}
use Rattle.rx_h2frame.specs.Frame.{Whole, Seen, Complete, Lacks, next}
use Rattle.rx_h2conn.specs.Session.{Event, Block, Bytes, Reset, Gone, Headers as HeaderList}
use Rattle.rx_h2conn.specs.Streams.{has_sequence, number, number_31}
use Rattle.rx_h2conn.specs.Headers.{headers_of}
use Rattle.rx_h2conn.specs.Steps.{blank_decoder}

pub record Incoming : Type 0 where
  pub broken : Bool  -- a rule of the bytes alone was broken, and nothing after it counts
  pub decoder : State
  pub sequence : Option Block  -- a header block that hasn't ended
  pub events : List Event  -- of all streams, none dropped
  pub rest : List ℕ  -- the bytes since the last whole frame

abbrev pub nothing : Incoming
nothing = record { broken = false; decoder = blank_decoder; sequence = None; events = []; rest = [] }

abbrev pub stopped : Incoming → Incoming
stopped t = record t { broken = true }

abbrev pub telling : Incoming → List Event → Incoming
telling t events = record t { events = t.events ++ events }

-- no frame but a CONTINUATION comes into a header block (6.10)
abbrev pub uninterrupted : Incoming → Incoming → Incoming
uninterrupted t new = if has_sequence t.sequence then stopped t else new

-- DATA without bytes tells nothing, unless it ends the stream (6.1)
abbrev pub data_told : ℕ → List ℕ → Bool → List Event
data_told id bytes last = if (length bytes == 0) && not last then [] else Bytes id bytes last ∷ []

-- a header block that the decoder read, or refused (4.3)
abbrev pub block_read : Result Progress HpackFault → Incoming → ℕ → Bool → Incoming
block_read (Ok read) t id last = telling (record t { decoder = Ready read.table }) (HeaderList id read.fields last ∷ [])
block_read (Err fault) t id last = stopped (record t { decoder = Refused fault })

abbrev pub block_told : Incoming → ℕ → List ℕ → Bool → Incoming
block_told t id block last = block_read (headers_of t.decoder block) t id last

-- HEADERS with END_HEADERS is a whole block (6.2)
abbrev pub headers_told : Incoming → Whole → Incoming
headers_told t f =
    if is_set f.flags 4 then block_told t f.stream f.body (is_set f.flags 1)
    else record t { sequence = Some (record { stream = f.stream; last = is_set f.flags 1; block = f.body; count = 0 }) }

-- CONTINUATION of the same stream (6.10), to the limits of a block
abbrev pub block_goes_on : Block → Incoming → Whole → Incoming
block_goes_on q t f =
    if not (q.stream == f.stream) then stopped t
    else if nat_lt 65536 (length q.block + length f.body) || not (nat_lt q.count 1024) then stopped t
    else if is_set f.flags 4 then block_told t q.stream (q.block ++ f.body) q.last
    else record t { sequence = Some (record { stream = q.stream; last = q.last; block = q.block ++ f.body; count = q.count + 1 }) }

abbrev pub continuation_told : Option Block → Incoming → Whole → Incoming
continuation_told None t f = stopped t
continuation_told (Some q) t f = block_goes_on q (record t { sequence = None }) f

-- The client takes no push (8.4). Of SETTINGS, PING and WINDOW_UPDATE nothing is told.
abbrev pub frame_in : Kind → Incoming → Whole → Incoming
frame_in Data t f = uninterrupted t (telling t (data_told f.stream f.body (is_set f.flags 1)))
frame_in Headers t f = uninterrupted t (headers_told t f)
frame_in Priority t f = uninterrupted t t
frame_in ResetStream t f = uninterrupted t (telling t (Reset f.stream (number f.body) ∷ []))
frame_in Settings t f = uninterrupted t t
frame_in PushPromise t f = stopped t
frame_in Ping t f = uninterrupted t t
frame_in GoAway t f = uninterrupted t (telling t (Gone (number_31 f.body) ∷ []))
frame_in WindowUpdate t f = uninterrupted t t
frame_in Continuation t f = continuation_told t.sequence t f
frame_in (Unknown kind) t f = uninterrupted t t

abbrev pub seen_in : Incoming → Result Seen FrameFault → Incoming
seen_in t (Err e) = stopped t
seen_in t (Ok (Lacks n)) = t
seen_in t (Ok (Complete f)) = record (frame_in f.kind t f) { rest = [] }

unfoldable pub rest_in : Incoming → Incoming
rest_in t = seen_in t (next 16384 t.rest)

unfoldable pub byte_in : Incoming → ℕ → Incoming
byte_in t b = if t.broken then t else rest_in (record t { rest = t.rest ++ b ∷ [] })

-- by single bytes, so that the cutting can't count
abbrev pub incoming : Incoming → List ℕ → Incoming
incoming t [] = t
incoming t (b ∷ bytes) = incoming (byte_in t b) bytes
