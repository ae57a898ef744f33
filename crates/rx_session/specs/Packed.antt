-- Packed numbers in a payload that is no reply's: a number that is cut, or too long, by its place.
use Rattle.std.specs.Prelude.{ℕ, zero, suc, ◌==◌, List, length, take, Result, Ok, Err, if◌then◌else◌}
use Rattle.rx_base.specs.Results.{◌>>=◌}
use Rattle.rx_wire.specs.Fields.{Placed}
use Rattle.rx_wire.specs.Values.{Content, varint, fixed64, bytes, fixed32}
use Rattle.rx_wire.specs.Varints.{varint_at}
use Rattle.rx_wire.specs.declared.faults.WireFault.{WireFault}
use Rattle.rx_wire.specs.declared.faults.WireFault.TheVariants.{Truncated, VarintTooLong, BadType, ZeroField, BadUtf8}
use Rattle.rx_codec.specs.Parts.{fields_checked}

-- each of at most so many numbers from an offset on is read
unfoldable pub numbers_checked : ℕ → List ℕ → ℕ → Result (Unit {0}) WireFault
numbers_checked zero packed at = Ok tt
numbers_checked (suc most) packed at =
    if at == length packed then Ok tt
    else do
      number ← varint_at packed at
      numbers_checked most packed number.1

-- what is refused, at a place
abbrev pub moved_to : ℕ → WireFault → WireFault
moved_to at (Truncated n) = Truncated at
moved_to at (VarintTooLong n) = VarintTooLong at
moved_to at (BadType n) = BadType at
moved_to at (ZeroField n) = ZeroField at
moved_to at (BadUtf8 n) = BadUtf8 at

abbrev pub at_place : ℕ → Result (Unit {0}) WireFault → Result (Unit {0}) WireFault
at_place at (Ok x) = Ok x
at_place at (Err fault) = Err (moved_to at fault)

-- A field of an end: its faults are packed numbers, and the place of one that is refused is where their length stands, as that of a text is.
abbrev pub piece_checked : Content → ℕ → Result (Unit {0}) WireFault
piece_checked (bytes packed) at = at_place at (numbers_checked (length packed) packed 0)
piece_checked (varint n) at = Ok tt
piece_checked (fixed64 n) at = Ok tt
piece_checked (fixed32 n) at = Ok tt

unfoldable pub end_field_checked : Placed → Result (Unit {0}) WireFault
end_field_checked placed = if placed.field.number == 7 then piece_checked placed.field.content placed.behind_tag else Ok tt

-- a field of a reply: its ends have such fields
abbrev pub end_checked : List ℕ → Placed → Content → Result (Unit {0}) WireFault
end_checked all placed (bytes b) = fields_checked end_field_checked (length (take placed.end all)) (take placed.end all) placed.content
end_checked all placed (varint n) = Ok tt
end_checked all placed (fixed64 n) = Ok tt
end_checked all placed (fixed32 n) = Ok tt

unfoldable pub reply_field_checked : List ℕ → Placed → Result (Unit {0}) WireFault
reply_field_checked all placed = if placed.field.number == 13 then end_checked all placed placed.field.content else Ok tt

-- the first packed number in a payload that is refused
unfoldable pub packed_checked : List ℕ → Result (Unit {0}) WireFault
packed_checked payload = fields_checked (reply_field_checked payload) (length payload) payload 0
