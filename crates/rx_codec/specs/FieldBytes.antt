-- Lists of fields and their bytes (Protocol Buffers, Encoding, "Message Structure").
use Rattle.std.specs.Prelude.{ℕ, zero, suc, ◌+◌, ◌*◌, ◌==◌, List, [], ◌∷◌, ◌++◌, length, map, Ok, if◌then◌else◌}
use Rattle.std.specs.Int.{w32, w64, to_le_bytes}
use Rattle.std.specs.List.{flat_map}
use Rattle.std.specs.Result.{result_unwrap_or}
use Rattle.rx_base.specs.Results.{◌>>=◌}
use Rattle.rx_wire.specs.Values.{Content, varint, fixed64, bytes, fixed32, Field}
use Rattle.rx_wire.specs.Varints.{shortest}
use Rattle.rx_wire.specs.Fields.{field_at}
use Rattle.rx_wire.specs.Out.{varint_field, bytes_field}

-- ---- written

-- the bytes of a field of this number, each varint in its shortest spelling
abbrev pub content_bytes : ℕ → Content → List ℕ
content_bytes number (varint n) = varint_field number n
content_bytes number (bytes b) = bytes_field number b
content_bytes number (fixed64 n) = shortest (number * 8 + 1) ++ to_le_bytes w64 n
content_bytes number (fixed32 n) = shortest (number * 8 + 5) ++ to_le_bytes w32 n

abbrev pub field_bytes : Field → List ℕ
field_bytes f = content_bytes f.number f.content

-- the bytes of fields, one after the other
unfoldable pub fields_bytes : List Field → List ℕ
fields_bytes fields = flat_map field_bytes fields

-- ---- read

-- The fields from an offset on, at most so many. What is no field ends them.
unfoldable pub fields_from : ℕ → List ℕ → ℕ → List Field
fields_from zero text at = []
fields_from (suc most) text at =
    if at == length text then []
    else result_unwrap_or (field_at text at >>= (λ placed. Ok (placed.field ∷ fields_from most text placed.end))) []

-- the fields of some bytes; each has a byte at least
unfoldable pub fields_in : List ℕ → List Field
fields_in text = fields_from (length text) text 0

-- ---- by number

-- the contents of the fields of a number, in order
abbrev pub contents : ℕ → List Field → List Content
contents number [] = []
contents number (f ∷ fields) = if f.number == number then f.content ∷ contents number fields else contents number fields

-- fields of a number
abbrev pub numbered : ℕ → List Content → List Field
numbered number cs = map (λ c. record { number = number; content = c }) cs
