-- The streams of a connection (RFC 9113 5.1).
use Rattle.std.specs.Prelude.{◌≡◌, ℕ, ◌+◌, ◌*◌, ◌/◌, ◌%◌, Bool, true, false, ◌&&◌, ◌||◌, List, length, slice_index, slice_index_or, if◌then◌else◌, nat_lt, ◌==◌, Option, None, Some}
use Rattle.rx_h2conn.specs.declared.fault.ConnFault.TheVariants.{Protocol}
use Rattle.rx_h2conn.specs.declared.stream.Stream.{Stream}
use Rattle.rx_h2conn.specs.Session.{Session, Block}

-- the client's streams are odd, and it opens them one after another
abbrev pub is_open : Session → ℕ → Bool
is_open s id = (id % 2 == 1) && nat_lt (id / 2) (length s.streams)

-- A stream as it is opened: the server may send 1,048,576 bytes, by the first settings, and is owed what makes 16,777,216.
abbrev pub fresh : Stream
fresh = record { send = record { ahead = 0; behind = 0 }; receive = 1048576; owed = 15728640; client_done = false; client_reset = false; server_done = false; server_reset = false }

abbrev pub stream_at : Session → ℕ → Stream
stream_at s id = slice_index_or s.streams (id / 2) fresh

-- a stream that `open_stream` gave and `reset` didn't give up; ended tells whether this side of it has ended
pub record IsHeld (s : Session) (id : ℕ) (ended : Bool) : Type 0 where
  pub opened : is_open s id ≡ true
  pub kept : (stream_at s id).client_reset ≡ false
  pub done : (stream_at s id).client_done ≡ ended

-- each stream that was held is held
abbrev pub KeepsHeld : Session → Session → Type 0
KeepsHeld old new = (id : ℕ) (ended : Bool) → IsHeld old id ended → IsHeld new id ended

-- what the server sends on it is dropped
abbrev pub is_dropped : Stream → Bool
is_dropped t = t.client_reset || t.server_done

-- a frame other than its CONTINUATION would come into a header block
abbrev pub has_sequence : Option Block → Bool
has_sequence None = false
has_sequence (Some q) = true

abbrev pub is_interrupted : Session → Bool
is_interrupted s = has_sequence s.sequence

-- a broken rule: nothing of the frame counts, and no later byte does
abbrev pub failed : Session → ℕ → Session
failed s code = record s { fault = Some (Protocol code) }

-- 32 bits, the highest byte first, and 31 where the first is reserved
abbrev pub number : List ℕ → ℕ
number bytes = ((slice_index bytes 0 * 256 + slice_index bytes 1) * 256 + slice_index bytes 2) * 256 + slice_index bytes 3

abbrev pub number_31 : List ℕ → ℕ
number_31 bytes = number bytes % 2147483648

-- a frame that changes nothing
unfoldable pub passed : Session → Session
passed s = if is_interrupted s then failed s 1 else s
