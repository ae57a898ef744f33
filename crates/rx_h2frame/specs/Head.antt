-- The nine bytes before a frame's payload, and the rules that they alone can break.
use Rattle.std.specs.Prelude.{ℕ, ◌+◌, ◌*◌, ◌%◌, Bool, true, false, not, ◌&&◌, ◌||◌, List, slice_index, if◌then◌else◌, nat_lt, ◌==◌}
use Rattle.rx_h2frame.specs.declared.kind.Kind.{Kind}
use Rattle.rx_h2frame.specs.declared.kind.Kind.TheVariants.{Data, Headers, Priority, ResetStream, Settings, Ping, GoAway, WindowUpdate, Unknown}
use Rattle.rx_h2frame.specs.Flags.{is_set}
use Rattle.rx_h2frame.specs.Kind.{kind_of}

pub record Header : Type 0 where
  pub size : ℕ
  pub kind : Kind
  pub flags : ℕ
  pub stream : ℕ

-- The header that these bytes begin with (RFC 9113 4.1): 24 bits, 8, 8, one that is reserved, and 31.
abbrev pub header_of : List ℕ → Header
header_of bytes = record {
  size = (slice_index bytes 0 * 256 + slice_index bytes 1) * 256 + slice_index bytes 2;
  kind = kind_of (slice_index bytes 3);
  flags = slice_index bytes 4;
  stream = (((slice_index bytes 5 % 128) * 256 + slice_index bytes 6) * 256 + slice_index bytes 7) * 256 + slice_index bytes 8;
}

-- DATA and HEADERS may be padded, by the flag PADDED (6.1, 6.2).
abbrev pub is_padded_by : Kind → ℕ → Bool
is_padded_by Data flags = is_set flags 8
is_padded_by Headers flags = is_set flags 8
is_padded_by _ flags = false

abbrev pub is_padded : Header → Bool
is_padded h = is_padded_by h.kind h.flags

-- the byte of the padding's length, where there is one
abbrev pub pad_length_size : Header → ℕ
pad_length_size h = if is_padded h then 1 else 0

-- the five bytes of priority that HEADERS has by the flag PRIORITY (6.2)
abbrev pub priority_size_by : Kind → ℕ → ℕ
priority_size_by Headers flags = if is_set flags 32 then 5 else 0
priority_size_by _ flags = 0

abbrev pub priority_size : Header → ℕ
priority_size h = priority_size_by h.kind h.flags

-- the sizes that each kind may have (6.3 to 6.9): SETTINGS is entries of six bytes, and none of them where it acknowledges
abbrev pub fits_kind : Kind → ℕ → ℕ → Bool
fits_kind Priority flags size = size == 5
fits_kind ResetStream flags size = size == 4
fits_kind WindowUpdate flags size = size == 4
fits_kind Settings flags size = (size % 6 == 0) && (not (is_set flags 1) || (size == 0))
fits_kind Ping flags size = size == 8
fits_kind GoAway flags size = not (nat_lt size 8)
fits_kind _ flags size = true

abbrev pub is_wrong_size : ℕ → Header → Bool
is_wrong_size largest h =
    nat_lt largest h.size
    || nat_lt h.size (pad_length_size h + priority_size h)
    || not (fits_kind h.kind h.flags h.size)

-- SETTINGS, PING and GOAWAY stand on the connection, WINDOW_UPDATE on it or on a stream, and the others on a stream.
abbrev pub is_wrong_stream : Kind → ℕ → Bool
is_wrong_stream Settings stream = not (stream == 0)
is_wrong_stream Ping stream = not (stream == 0)
is_wrong_stream GoAway stream = not (stream == 0)
is_wrong_stream WindowUpdate stream = false
is_wrong_stream (Unknown byte) stream = false
is_wrong_stream _ stream = stream == 0
