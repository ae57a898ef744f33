-- Fields and their values, without where they lie in memory.
use Rattle.std.specs.Prelude.{ℕ, ◌%◌, ◌==◌, List, Option, Some, None, if◌then◌else◌}
use Rattle.rx_wire.specs.declared.values.Kind.{Kind}
use Rattle.rx_wire.specs.declared.values.Kind.TheVariants as kinds
use Rattle.rx_wire.specs.declared.values.Value.{Value}
use Rattle.rx_wire.specs.declared.values.Value.TheVariants as values

pub data Content : Type 0 where
  varint : ℕ → Content
  fixed64 : ℕ → Content
  bytes : List ℕ → Content
  fixed32 : ℕ → Content

pub record Field : Type 0 where
  pub number : ℕ
  pub content : Content

abbrev pub content_of : Value → Content
content_of (values.Varint n) = varint n
content_of (values.Fixed64 n) = fixed64 n
content_of (values.Bytes b) = bytes b.now
content_of (values.Fixed32 n) = fixed32 n

abbrev pub field_of : ℕ → Value → Field
field_of n v = record { number = n; content = content_of v }

-- the wire type of a value, in its tag
abbrev pub kind_number : Content → ℕ
kind_number (varint n) = 0
kind_number (fixed64 n) = 1
kind_number (bytes b) = 2
kind_number (fixed32 n) = 5

-- the kind that a tag names
unfoldable pub kind_of : ℕ → Option Kind
kind_of tag =
    if tag % 8 == 0 then Some kinds.Varint
    else if tag % 8 == 1 then Some kinds.Fixed64
    else if tag % 8 == 2 then Some kinds.Bytes
    else if tag % 8 == 5 then Some kinds.Fixed32
    else None

-- the wire type of a kind
abbrev pub number_of : Kind → ℕ
number_of kinds.Varint = 0
number_of kinds.Fixed64 = 1
number_of kinds.Bytes = 2
number_of kinds.Fixed32 = 5
