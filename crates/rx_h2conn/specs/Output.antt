-- The frames that the client sends.
use Rattle.std.specs.Prelude.{◌≡◌, ℕ, ◌+◌, ◌-◌, ◌/◌, Bool, true, not, ◌&&◌, ◌||◌, zero, suc, List, [], ◌∷◌, ◌++◌, length, take, drop, slice_set, if◌then◌else◌, nat_lt, ◌==◌, min, map, Option, None, Some, Result, Ok, Err}
use Rattle.rx_h2frame.specs.declared.kind.Kind.{Kind}
use Rattle.rx_h2frame.specs.declared.kind.Kind.TheVariants.{Data, ResetStream, WindowUpdate}
use Rattle.rx_h2frame.specs.Write.{Out, out_bytes, four}
use Rattle.rx_h2conn.specs.declared.fault.ConnFault.{ConnFault}
use Rattle.rx_h2conn.specs.declared.fault.ConnFault.TheVariants.{NoMemory}
use Rattle.rx_h2conn.specs.declared.output.Framing.{Framing}
use Rattle.rx_h2conn.specs.declared.stream.Stream.{Stream}
use Rattle.rx_h2conn.specs.Session.{Session}
use Rattle.rx_h2conn.specs.Window.{room, spent}
use Rattle.rx_h2conn.specs.Streams.{stream_at}
use Rattle.rx_h2conn.specs.Credit.{connection_due, stream_due}
use Rattle.rx_h2conn.specs.Emitted.{bytes_of}

-- Bytes in frames of at most 16,384: the first of one kind and with these flags, the later ones of another, and the last
-- with a flag more.
unfoldable pub frames_of : ℕ → Kind → Kind → ℕ → ℕ → ℕ → List ℕ → List Out
frames_of zero first later flags ending id bytes = []
frames_of (suc most) first later flags ending id bytes =
    if nat_lt 16384 (length bytes)
    then record { kind = first; flags = flags; stream = id; body = take 16384 bytes } ∷ frames_of most later later 0 ending id (drop 16384 bytes)
    else record { kind = first; flags = flags + ending; stream = id; body = bytes } ∷ []

-- bytes in the frames that a framing asks for
abbrev pub framed : Framing → List ℕ → List Out
framed framing bytes = frames_of (length bytes + 1) framing.first framing.later framing.flags framing.ending framing.stream bytes

abbrev pub end_stream : Bool → ℕ
end_stream last = if last then 1 else 0

abbrev pub data_frames : ℕ → List ℕ → Bool → List Out
data_frames id bytes last = frames_of (length bytes + 1) Data Data 0 (end_stream last) id bytes

-- what both windows allow of so many bytes
abbrev pub allowed : Session → ℕ → ℕ → ℕ
allowed s id size = min size (min s.send (room s.initial (stream_at s id).send))

-- the stream's end goes with the last byte
abbrev pub ends : Session → ℕ → ℕ → Bool → Bool
ends s id size last = last && (allowed s id size == size)

-- Bytes for a stream that the server has reset aren't written, and use no window.
abbrev pub charged : Session → ℕ → ℕ → ℕ
charged s id size = if (stream_at s id).server_reset then 0 else allowed s id size

abbrev pub send_frames : Session → ℕ → List ℕ → Bool → List Out
send_frames s id piece last =
    if not (stream_at s id).server_reset && (nat_lt 0 (allowed s id (length piece)) || ends s id (length piece) last)
    then data_frames id (take (allowed s id (length piece)) piece) (ends s id (length piece) last)
    else []

unfoldable pub sent : Session → ℕ → List ℕ → Bool → Session
sent s id piece last = record s {
  send = s.send - charged s id (length piece);
  streams = slice_set s.streams (id / 2) (record (stream_at s id) { send = spent (stream_at s id).send (charged s id (length piece)); client_done = (stream_at s id).client_done || ends s id (length piece) last });
  queued = s.queued ++ bytes_of (send_frames s id piece last);
}

-- what a call leaves and answers: nothing after a fault, and for want of memory nothing changes
abbrev pub AnswersAt : {A : Type 0} → Option ConnFault → Session → Session → A → Session → Result A ConnFault → Type 0
AnswersAt (Some e) old want value new r = (new ≡ old) × (r ≡ Err e)
AnswersAt None old want value new (Ok n) = (new ≡ want) × (n ≡ value)
AnswersAt None old want value new (Err e) = (new ≡ old) × (e ≡ NoMemory)

-- what `send` leaves and answers: how many bytes of the piece it took
abbrev pub Sends : Session → ℕ → List ℕ → Bool → Session → Result ℕ ConnFault → Type 0
Sends old id piece last new r = AnswersAt old.fault old (sent old id piece last) (allowed old id (length piece)) new r

-- RST_STREAM (RFC 9113 6.4)
abbrev pub reset_frame : ℕ → ℕ → Out
reset_frame id code = record { kind = ResetStream; flags = 0; stream = id; body = four code }

-- A stream that is given up is closed, so no WINDOW_UPDATE may follow on it (5.1): what it was owed is forgotten. The
-- credit of the connection stays.
abbrev pub given_up : Stream → Stream
given_up t = record t { client_reset = true; owed = 0 }

unfoldable pub reset : Session → ℕ → ℕ → Session
reset s id code = record s {
  streams = slice_set s.streams (id / 2) (given_up (stream_at s id));
  queued = s.queued ++ out_bytes (reset_frame id code);
}

-- what `reset` leaves and answers
abbrev pub Resets : Session → ℕ → ℕ → Session → Result (Unit {0}) ConnFault → Type 0
Resets old id code new r = AnswersAt old.fault old (reset old id code) tt new r

-- the credit that is due: on the connection, and then on each stream
abbrev pub update_frame : ℕ → ℕ → Out
update_frame id size = record { kind = WindowUpdate; flags = 0; stream = id; body = four size }

abbrev pub credit_frames : ℕ → ℕ → List Out
credit_frames id size = if size == 0 then [] else update_frame id size ∷ []

abbrev pub stream_credits : ℕ → List Stream → List Out
stream_credits id [] = []
stream_credits id (t ∷ ts) = credit_frames id (stream_due t) ++ stream_credits (id + 2) ts

abbrev pub all_credits : Session → List Out
all_credits s = credit_frames 0 (connection_due s) ++ stream_credits 1 s.streams

abbrev pub told : Stream → Stream
told t = record t { receive = t.receive + stream_due t; owed = t.owed - stream_due t }

-- what `take_output` answers and leaves
abbrev pub output : Session → List ℕ
output s = s.queued ++ bytes_of (all_credits s)

abbrev pub emptied : Session → Session
emptied s = record s { receive = s.receive + connection_due s; owed = s.owed - connection_due s; acks = 0; queued = []; streams = map told s.streams }
