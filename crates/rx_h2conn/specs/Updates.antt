-- WINDOW_UPDATE (RFC 9113 6.9).
use Rattle.std.specs.Prelude.{ℕ, ◌+◌, ◌/◌, Bool, ◌&&◌, ◌||◌, not, slice_set, if◌then◌else◌, nat_lt, ◌==◌}
use Rattle.rx_h2frame.specs.Frame.{Whole}
use Rattle.rx_h2conn.specs.declared.stream.Stream.{Stream}
use Rattle.rx_h2conn.specs.Session.{Session}
use Rattle.rx_h2conn.specs.Window.{granted, grows_past}
use Rattle.rx_h2conn.specs.Streams.{failed, is_open, stream_at, is_interrupted, number_31}

-- so much more makes the window too large; on a stream that was reset no window counts
abbrev pub overflows : ℕ → Stream → ℕ → Bool
overflows initial t size = not t.client_reset && grows_past initial t.send size

unfoldable pub on_connection_update : Session → ℕ → Session
on_connection_update s size =
    if nat_lt 2147483647 (s.send + size) then failed s 3
    else if is_interrupted s || (size == 0) then failed s 1
    else record s { send = s.send + size }

-- An increment of 0 is against 6.9, but what comes on a stream that was reset is dropped.
unfoldable pub on_stream_update : Session → ℕ → ℕ → Session
on_stream_update s id size =
    if not (is_open s id) then failed s 1
    else if overflows s.initial (stream_at s id) size then failed s 3
    else if is_interrupted s then failed s 1
    else if (stream_at s id).client_reset then s
    else if size == 0 then failed s 1
    else record s { streams = slice_set s.streams (id / 2) (record (stream_at s id) { send = granted (stream_at s id).send size }) }

unfoldable pub on_window_update : Session → Whole → Session
on_window_update s f =
    if f.stream == 0 then on_connection_update s (number_31 f.body)
    else on_stream_update s f.stream (number_31 f.body)
