-- The ends of streams and of the connection that the server tells (RFC 9113 6.4, 6.8).
use Rattle.std.specs.Prelude.{ℕ, ◌/◌, Bool, true, ◌||◌, not, List, [], ◌∷◌, ◌++◌, slice_set, if◌then◌else◌, Option, None, Some}
use Rattle.rx_h2frame.specs.Frame.{Whole}
use Rattle.rx_h2conn.specs.Session.{Session, Queued, Reset, Gone}
use Rattle.rx_h2conn.specs.Streams.{failed, is_open, stream_at, is_interrupted, number, number_31}

-- a stream that the server has ended already gives no event
abbrev pub reset_events : Whole → Bool → List Queued
reset_events f done = if done then [] else record { event = Reset f.stream (number f.body); stream = f.stream; credit = 0 } ∷ []

unfoldable pub on_reset : Session → Whole → Session
on_reset s f =
    if is_interrupted s || not (is_open s f.stream) then failed s 1
    else if (stream_at s f.stream).client_reset then s
    else record s {
      streams = slice_set s.streams (f.stream / 2) (record (stream_at s f.stream) { server_done = true; server_reset = true });
      events = s.events ++ reset_events f (stream_at s f.stream).server_done;
    }

abbrev pub first_of : Option ℕ → ℕ → Option ℕ
first_of None last = Some last
first_of (Some first) last = Some first

unfoldable pub on_go_away : Session → Whole → Session
on_go_away s f =
    if is_interrupted s then failed s 1
    else record s {
      gone = first_of s.gone (number_31 f.body);
      events = s.events ++ record { event = Gone (number_31 f.body); stream = 0; credit = 0 } ∷ [];
    }
