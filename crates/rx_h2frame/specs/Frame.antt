-- What the bytes of a connection begin with.
use Rattle.std.specs.Prelude.{◌≡◌, ◌≤◌, ℕ, ◌+◌, ◌-◌, Bool, true, false, ◌&&◌, List, length, take, drop, slice_index, if◌then◌else◌, nat_lt, Result, Ok, Err}
use Rattle.rx_h2frame.specs.declared.kind.Kind.{Kind}
use Rattle.rx_h2frame.specs.declared.frame.FrameFault.{FrameFault}
use Rattle.rx_h2frame.specs.declared.frame.FrameFault.TheVariants.{FrameSize, BadPadding, BadStreamId}
use Rattle.rx_h2frame.specs.Head.{Header, header_of, is_padded, is_padded_by, pad_length_size, priority_size, fits_kind, is_wrong_size, is_wrong_stream}

-- a frame without its padding and priority; size is that of the payload with both
pub record Whole : Type 0 where
  pub kind : Kind
  pub flags : ℕ
  pub stream : ℕ
  pub body : List ℕ
  pub size : ℕ

-- a frame is whole, or so many bytes are lacking
pub data Seen : Type 0 where
  Complete : Whole → Seen
  Lacks : ℕ → Seen

-- how many bytes of padding end the payload, by its first byte
abbrev pub padding : Header → List ℕ → ℕ
padding h payload = if is_padded h then slice_index payload 0 else 0

-- the padding's length is there, and more than there is room for
abbrev pub is_wrong_padding : Header → List ℕ → Bool
is_wrong_padding h payload =
    nat_lt 0 (length payload) && nat_lt h.size (pad_length_size h + priority_size h + padding h payload)

abbrev pub whole_of : Header → List ℕ → Whole
whole_of h payload = record {
  kind = h.kind;
  flags = h.flags;
  stream = h.stream;
  body = take (h.size - (pad_length_size h + priority_size h + padding h payload)) (drop (pad_length_size h + priority_size h) payload);
  size = h.size;
}

-- what the header shows, with what is there of the payload
unfoldable pub payload_of : ℕ → Header → List ℕ → Result Seen FrameFault
payload_of largest h payload =
    if is_wrong_size largest h then Err FrameSize
    else if is_wrong_stream h.kind h.stream then Err BadStreamId
    else if is_wrong_padding h payload then Err BadPadding
    else if nat_lt (length payload) h.size then Ok (Lacks (h.size - length payload))
    else Ok (Complete (whole_of h payload))

-- what the bytes begin with: a frame, the front of one, or what is none
unfoldable pub next : ℕ → List ℕ → Result Seen FrameFault
next largest bytes =
    if nat_lt (length bytes) 9 then Ok (Lacks (9 - length bytes))
    else payload_of largest (header_of bytes) (drop 9 bytes)

-- what each frame that is read keeps to
pub record IsSound (largest : ℕ) (w : Whole) : Type 0 where
  pub size : w.size ≤ largest
  pub body : length w.body ≤ w.size
  pub fits : fits_kind w.kind w.flags w.size ≡ true
  pub stream : is_wrong_stream w.kind w.stream ≡ false
  pub unpadded : is_padded_by w.kind w.flags ≡ false → priority_size (record { size = w.size; kind = w.kind; flags = w.flags; stream = w.stream }) ≡ 0 → length w.body ≡ w.size
