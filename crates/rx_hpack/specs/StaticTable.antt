-- The static table (RFC 7541 2.3.1 and appendix A).
use Rattle.std.specs.Prelude.{ℕ, Bool, ◌&&◌, List, map}
use Rattle.std.specs.Str.{bytes_eq}
use Rattle.std.specs.Borrow.{Bor}
use Rattle.rx_hpack.specs.declared.static_table.TheConstants.{STATIC_TABLE}
use Rattle.rx_hpack.specs.Header.{Field}

abbrev pub field_of : Bor (List ℕ) × Bor (List ℕ) → Field
field_of entry = record { name = entry.0.now; value = entry.1.now }

-- its fields, from index 1 on
unfoldable pub static_fields : List Field
static_fields = map (λ entry. record { name = entry.0.now; value = entry.1.now }) STATIC_TABLE

-- whether a field has this name
abbrev pub has_name : List ℕ → Field → Bool
has_name name field = bytes_eq field.name name

-- whether a field has this name and this value
abbrev pub is_field : List ℕ → List ℕ → Field → Bool
is_field name value field = bytes_eq field.name name && bytes_eq field.value value
