-- The forms that the encoder writes (RFC 7541 6.1 and 6.2.2).
use Rattle.std.specs.Prelude.{ℕ, ◌+◌, ◌<◌, ◌^◌, List, ◌∷◌, ◌++◌, length, position, Option, Some, None}
use Rattle.std.specs.List.{flat_map}
use Rattle.rx_hpack.specs.declared.header.Header.{Header}
use Rattle.rx_hpack.specs.Header.{Field}
use Rattle.rx_hpack.specs.Integer.{integer_bytes}
use Rattle.rx_hpack.specs.Text.{plain_bytes}
use Rattle.rx_hpack.specs.StaticTable.{static_fields, has_name, is_field}

-- a header whose lengths fit in an integer
abbrev pub IsWritable : Header → Type 0
IsWritable header = (length header.name.items < 2 ^ 32) × (length header.value.items < 2 ^ 32)

-- the name of a literal field: the index of the first field with it, or 0 and the name
unfoldable pub name_bytes : Option ℕ → List ℕ → List ℕ
name_bytes (Some place) name = integer_bytes 15 0 (place + 1)
name_bytes None name = 0 ∷ plain_bytes name

-- the index of a field of the static table, where there is one, or a literal field that isn't indexed
unfoldable pub form_bytes : Option ℕ → List ℕ → List ℕ → List ℕ
form_bytes (Some place) name value = integer_bytes 127 128 (place + 1)
form_bytes None name value = name_bytes (position (has_name name) static_fields) name ++ plain_bytes value

abbrev pub field_bytes : List ℕ → List ℕ → List ℕ
field_bytes name value = form_bytes (position (is_field name value) static_fields) name value

-- the block of a list of fields
abbrev pub block_bytes : List Field → List ℕ
block_bytes fields = flat_map (λ field. field_bytes field.name field.value) fields
