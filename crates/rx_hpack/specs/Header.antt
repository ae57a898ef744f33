-- Header fields, and the size of an entry and of a list of them (RFC 7541 1.3 and 4.1).
use Rattle.std.specs.Prelude.{ℕ, ◌+◌, List, [], ◌∷◌, length, map}
use Rattle.rx_hpack.specs.declared.header.Header.{Header}

-- a header field without where it lies in memory
pub record Field : Type 0 where
  pub name : List ℕ
  pub value : List ℕ

abbrev pub view : Header → Field
view header = record { name = header.name.items; value = header.value.items }

abbrev pub views : List Header → List Field
views headers = map view headers

-- the two lengths and 32
abbrev pub entry_size : Field → ℕ
entry_size field = length field.name + length field.value + 32

-- the sum of the sizes of its fields
abbrev pub size_of : List Field → ℕ
size_of [] = 0
size_of (field ∷ fields) = entry_size field + size_of fields
