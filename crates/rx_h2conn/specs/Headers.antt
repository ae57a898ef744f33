-- Header blocks that come in (RFC 9113 4.3, 6.2, 6.10).
use Rattle.std.specs.Prelude.{ℕ, ◌+◌, ◌/◌, Bool, ◌||◌, not, List, [], ◌∷◌, ◌++◌, length, slice_set, if◌then◌else◌, nat_lt, ◌==◌, Option, None, Some, Result, Ok, Err}
use Rattle.rx_hpack.specs.declared.fault.HpackFault.{HpackFault}
use Rattle.rx_hpack.specs.declared.fault.HpackFault.TheVariants.{ListTooLarge}
use Rattle.rx_hpack.specs.Header.{Field}
use Rattle.rx_hpack.specs.Decoder.{State, Ready, Refused, Progress, block_of}
use Rattle.rx_h2frame.specs.Flags.{is_set}
use Rattle.rx_h2frame.specs.Frame.{Whole}
use Rattle.rx_h2conn.specs.Session.{Session, Block, Headers}
use Rattle.rx_h2conn.specs.Streams.{failed, is_open, stream_at, is_dropped, is_interrupted}

-- a header list of a stream, unless what comes on it is dropped
unfoldable pub told_headers : Session → ℕ → List Field → Bool → Session
told_headers s id list last =
    if not (is_open s id) then failed s 1
    else if is_dropped (stream_at s id) then s
    else record s {
      streams = slice_set s.streams (id / 2) (record (stream_at s id) { server_done = (stream_at s id).server_done || last });
      events = s.events ++ record { event = Headers id list last; stream = id; credit = 0 } ∷ [];
    }

-- what the decoder makes of a block
abbrev pub headers_of : State → List ℕ → Result Progress HpackFault
headers_of (Ready table) block = block_of table block
headers_of (Refused fault) block = Err fault

abbrev pub told_block : Result Progress HpackFault → Session → ℕ → Bool → Session
told_block (Ok read) s id last = told_headers (record s { decoder = Ready read.table }) id read.fields last
told_block (Err ListTooLarge) s id last = failed (record s { decoder = Refused ListTooLarge }) 11
told_block (Err fault) s id last = failed (record s { decoder = Refused fault }) 9

-- A whole block is decoded before it is judged, also where it is dropped, since each block changes the decoder.
unfoldable pub ended : Session → ℕ → List ℕ → Bool → Session
ended s id block last = told_block (headers_of s.decoder block) s id last

unfoldable pub on_headers : Session → Whole → Session
on_headers s f =
    if is_interrupted s then failed s 1
    else if is_set f.flags 4 then ended s f.stream f.body (is_set f.flags 1)
    else if not (is_open s f.stream) then failed s 1
    else record s { sequence = Some (record { stream = f.stream; last = is_set f.flags 1; block = f.body; count = 0 }) }

-- A CONTINUATION goes on with the block of its stream: to 65,536 bytes and 1,024 frames.
unfoldable pub continued : Block → Session → Whole → Session
continued q s f =
    if not (q.stream == f.stream) then failed s 1
    else if nat_lt 65536 (length q.block + length f.body) || not (nat_lt q.count 1024) then failed s 11
    else if is_set f.flags 4 then ended s q.stream (q.block ++ f.body) q.last
    else record s { sequence = Some (record { stream = q.stream; last = q.last; block = q.block ++ f.body; count = q.count + 1 }) }

abbrev pub continued_by : Option Block → Session → Whole → Session
continued_by None s f = failed s 1
continued_by (Some q) s f = continued q s f

unfoldable pub on_continuation : Session → Whole → Session
on_continuation s f = continued_by s.sequence (record s { sequence = None }) f
