-- Fields as they are written.
use Rattle.std.specs.Prelude.{◌≡◌, ℕ, ◌+◌, ◌*◌, List, [], ◌∷◌, ◌++◌, length, take}
use Rattle.rx_wire.specs.Values.{Field, bytes, varint}
use Rattle.rx_wire.specs.Varints.{shortest}
use Rattle.rx_wire.specs.Fields.{SpellsField, SpellsFields}

-- new begins with old
pub record IsFront (old new : List ℕ) : Type 0 where
  pub same : take (length old) new ≡ old

-- the bytes of a field that is a varint, each number in its shortest spelling
unfoldable pub varint_field : ℕ → ℕ → List ℕ
varint_field number value = shortest (number * 8) ++ shortest value

-- the bytes of a field that is bytes
unfoldable pub bytes_field : ℕ → List ℕ → List ℕ
bytes_field number value = shortest (number * 8 + 2) ++ shortest (length value) ++ value

-- a field that is a varint
abbrev pub one_varint : ℕ → ℕ → Field
one_varint number value = record { number = number; content = varint value }

-- a field that is bytes
abbrev pub one_bytes : ℕ → List ℕ → Field
one_bytes number value = record { number = number; content = bytes value }

-- the bytes of one more field stand at the end
pub record Appends (old new : List ℕ) (f : Field) : Type 0 where
  pub text : List ℕ
  pub parts : new ≡ old ++ text
  pub spelled : SpellsField f text

-- where the old bytes spell some fields, the new ones spell these and one more
abbrev pub AddsField : List ℕ → List ℕ → Field → Type 0
AddsField old new f = (fs : List Field) → SpellsFields fs old → SpellsFields (fs ++ f ∷ []) new
