-- Which bytes are a message, as far as the wire format says: which of its fields are text, and which are messages.
use Rattle.std.specs.Prelude.{◌≡◌, ℕ, zero, suc, ◌==◌, true, List, length, take, Result, Ok, Err, if◌then◌else◌}
use Rattle.std.specs.List.{AllByRecursion}
use Rattle.std.specs.Str.{is_utf8}
use Rattle.rx_base.specs.Results.{◌>>=◌}
use Rattle.rx_wire.specs.declared.faults.WireFault.{WireFault}
use Rattle.rx_wire.specs.declared.faults.WireFault.TheVariants.{BadUtf8}
use Rattle.rx_wire.specs.Fields.{Placed, SpellsFields, field_at}
use Rattle.rx_wire.specs.Values.{Content, varint, fixed64, bytes, fixed32, Field}

-- What the bytes of a field have to be: anything, text, or a message, whose fields have parts by their number.
pub data Part : Type 0 where
  anything : Part
  text : Part
  message : (ℕ → Part) → Part

-- ---- as a relation

-- The bytes spell fields, and each of them meets this.
pub record SpellsEach (Meets : Field → Type 0) (all : List ℕ) : Type 0 where
  pub fields : List Field
  pub spelled : SpellsFields fields all
  pub each : AllByRecursion Meets fields

-- The content is what a part says; what isn't bytes is skipped.
abbrev pub IsPart : Part → Content → Type 0
IsPart anything c = Unit {0}
IsPart text (bytes b) = is_utf8 b ≡ true
IsPart text (varint n) = Unit {0}
IsPart text (fixed64 n) = Unit {0}
IsPart text (fixed32 n) = Unit {0}
IsPart (message parts) (bytes b) = SpellsEach (λ f. IsPart (parts f.number) f.content) b
IsPart (message parts) (varint n) = Unit {0}
IsPart (message parts) (fixed64 n) = Unit {0}
IsPart (message parts) (fixed32 n) = Unit {0}

-- Each field is what its part says.
abbrev pub HasParts : (ℕ → Part) → List Field → Type 0
HasParts parts fields = AllByRecursion (λ f. IsPart (parts f.number) f.content) fields

-- Bytes that are a message of these parts.
abbrev pub IsMessage : (ℕ → Part) → List ℕ → Type 0
IsMessage parts all = SpellsEach (λ f. IsPart (parts f.number) f.content) all

-- ---- the first refusal, by place

-- Each of at most so many fields from an offset on is read and checked.
unfoldable pub fields_checked : (Placed → Result (Unit {0}) WireFault) → ℕ → List ℕ → ℕ → Result (Unit {0}) WireFault
fields_checked check zero all at = Ok tt
fields_checked check (suc most) all at =
    if at == length all then Ok tt
    else do
      placed ← field_at all at
      _ ← check placed
      fields_checked check most all placed.end

-- text whose length stands at an offset
unfoldable pub text_checked : List ℕ → ℕ → Result (Unit {0}) WireFault
text_checked b at = if is_utf8 b then Ok tt else Err (BadUtf8 at)

-- A field in some bytes, by its part. Offsets within a message count on in the same bytes.
unfoldable pub part_checked : Part → List ℕ → Placed → Content → Result (Unit {0}) WireFault
part_checked anything all placed c = Ok tt
part_checked text all placed (bytes b) = text_checked b placed.behind_tag
part_checked text all placed (varint n) = Ok tt
part_checked text all placed (fixed64 n) = Ok tt
part_checked text all placed (fixed32 n) = Ok tt
part_checked (message parts) all placed (bytes b) =
    fields_checked (λ p. part_checked (parts p.field.number) (take placed.end all) p p.field.content) (length (take placed.end all)) (take placed.end all) placed.content
part_checked (message parts) all placed (varint n) = Ok tt
part_checked (message parts) all placed (fixed64 n) = Ok tt
part_checked (message parts) all placed (fixed32 n) = Ok tt

-- one field of a message of these parts
abbrev pub field_checked : (ℕ → Part) → List ℕ → Placed → Result (Unit {0}) WireFault
field_checked parts all placed = part_checked (parts placed.field.number) all placed placed.field.content

-- all fields from an offset on; each has a byte at least
unfoldable pub parts_checked : (ℕ → Part) → List ℕ → ℕ → Result (Unit {0}) WireFault
parts_checked parts all at = fields_checked (field_checked parts all) (length all) all at
