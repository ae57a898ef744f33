-- Messages in the bytes of a stream (PROTOCOL-HTTP2.md of gRPC, "Length-Prefixed-Message"): a flag, four bytes of a length,
-- and as many bytes.
use Rattle.std.specs.Prelude.{◌≤◌, ℕ, ◌+◌, ◌*◌, ◌-◌, List, [], ◌∷◌, ◌++◌, length, drop, slice_index, if◌then◌else◌, nat_lt, ◌==◌}
use Rattle.rx_h2frame.specs.Write.{four}

-- what bytes begin with: a whole message, the front of one that lacks so many bytes to its next sign, or what is refused
pub data Next : Type 0 where
  Whole : List ℕ → Next
  Lacks : ℕ → Next
  IsCompressed : Next
  IsTooLarge : Next

-- the length, the highest byte first
abbrev pub size_of : List ℕ → ℕ
size_of bytes = ((slice_index bytes 1 * 256 + slice_index bytes 2) * 256 + slice_index bytes 3) * 256 + slice_index bytes 4

unfoldable pub sized : ℕ → List ℕ → Next
sized size bytes =
    if nat_lt 4194304 size then IsTooLarge
    else if nat_lt (length bytes) (size + 5) then Lacks (size + 5 - length bytes)
    else Whole (drop 5 bytes)

-- the flag is judged once it is there, and then the length
unfoldable pub next_message : List ℕ → Next
next_message bytes =
    if length bytes == 0 then Lacks 1
    else if nat_lt 0 (slice_index bytes 0) then IsCompressed
    else if nat_lt (length bytes) 5 then Lacks (5 - length bytes)
    else sized (size_of bytes) bytes

-- messages as they are sent: none is compressed
abbrev pub framed : List (List ℕ) → List ℕ
framed [] = []
framed (message ∷ messages) = 0 ∷ four (length message) ++ message ++ framed messages

abbrev pub AllSmall : List (List ℕ) → Type 0
AllSmall [] = Unit {0}
AllSmall (message ∷ messages) = (length message ≤ 4194304) × AllSmall messages
