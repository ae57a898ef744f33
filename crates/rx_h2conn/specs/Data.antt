-- Bytes that come in (RFC 9113 6.1, 6.9), and their credit.
use Rattle.std.specs.Prelude.{ℕ, ◌+◌, ◌-◌, ◌/◌, Bool, ◌&&◌, ◌||◌, not, List, [], ◌∷◌, ◌++◌, length, slice_set, if◌then◌else◌, nat_lt, ◌==◌}
use Rattle.rx_h2frame.specs.Flags.{is_set}
use Rattle.rx_h2frame.specs.Frame.{Whole}
use Rattle.rx_h2conn.specs.declared.stream.Stream.{Stream}
use Rattle.rx_h2conn.specs.Session.{Session, Queued, Bytes}
use Rattle.rx_h2conn.specs.Streams.{failed, is_open, stream_at, is_dropped, is_interrupted}

-- past the window of the connection, or of a stream whose bytes aren't dropped
abbrev pub passes_window : Session → Whole → Bool
passes_window s f =
    nat_lt s.receive f.size
    || (is_open s f.stream && not (is_dropped (stream_at s f.stream)) && nat_lt (stream_at s f.stream).receive f.size)

-- DATA that is dropped counts for the connection alone, and its credit is due at once.
abbrev pub dropped_data : Session → ℕ → Session
dropped_data s size = record s { receive = s.receive - size; owed = s.owed + size }

-- the credit waits for the event that carries the bytes; without bytes it is due at once
abbrev pub carried : Whole → ℕ
carried f = if length f.body == 0 then 0 else f.size

abbrev pub data_events : ℕ → List ℕ → ℕ → Bool → List Queued
data_events id bytes credit last =
    if (length bytes == 0) && not last then [] else record { event = Bytes id bytes last; stream = id; credit = credit } ∷ []

abbrev pub heard : Stream → ℕ → ℕ → Bool → Stream
heard t size due last = record t { receive = t.receive - size; owed = t.owed + due; server_done = t.server_done || last }

abbrev pub taken_data : Session → Whole → Bool → Session
taken_data s f last = record s {
  receive = s.receive - f.size;
  owed = s.owed + (f.size - carried f);
  streams = slice_set s.streams (f.stream / 2) (heard (stream_at s f.stream) f.size (f.size - carried f) last);
  events = s.events ++ data_events f.stream f.body (carried f) last;
}

unfoldable pub on_data : Session → Whole → Session
on_data s f =
    if passes_window s f then failed s 3
    else if is_interrupted s || not (is_open s f.stream) then failed s 1
    else if is_dropped (stream_at s f.stream) then dropped_data s f.size
    else taken_data s f (is_set f.flags 1)

-- The credit of an event is due once it is handed out: on its stream too, where `reset` wasn't called on that.
abbrev pub owing : Stream → ℕ → Stream
owing t credit = record t { owed = t.owed + credit }

unfoldable pub owe : Session → ℕ → ℕ → Session
owe s id credit =
    if is_open s id && not (stream_at s id).client_reset
    then record s { owed = s.owed + credit; streams = slice_set s.streams (id / 2) (owing (stream_at s id) credit) }
    else record s { owed = s.owed + credit }
