-- Fields that were read, without where they lie in memory.
use Rattle.std.specs.Prelude.{◌≡◌, ℕ, ◌<◌, ◌==◌, ◌⊎◌, List, length, map, Option, None, Err, if◌then◌else◌}
use Rattle.rx_wire.specs.Cursor.{Cursor}
use Rattle.rx_wire.specs.Fields.{field_at}
use Rattle.rx_wire.specs.declared.faults.WireFault.{WireFault}
use Rattle.rx_wire.specs.declared.values.Value.{Value}
use Rattle.rx_wire.specs.Values.{Field, field_of}
use Rattle.rx_codec.specs.Contents.{chunk_of, number_of}

abbrev pub seen : List (ℕ × Value) → List Field
seen fields = map (λ (f : ℕ × Value). field_of f.0 f.1) fields

-- the bytes of a field, where it has this number
abbrev pub chunk_in : ℕ → Field → Option (List ℕ)
chunk_in number f = if f.number == number then chunk_of f.content else None

-- the varint of a field, where it has this number
abbrev pub varint_in : ℕ → Field → Option ℕ
varint_in number f = if f.number == number then number_of f.content else None

-- there is no field more: the end, or a refusal
abbrev pub IsOver : Cursor → Type 0
IsOver now = (now.at ≡ length now.bytes) ⊎ ((fault : WireFault) × (now.at < length now.bytes) × (field_at now.bytes now.at ≡ Err fault))
