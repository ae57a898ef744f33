-- Fields and their bytes (Protocol Buffers, Encoding, "Message Structure").
use Rattle.std.specs.Prelude.{◌≡◌, ℕ, ◌+◌, ◌-◌, ◌*◌, ◌/◌, ◌^◌, ◌<◌, List, [], ◌∷◌, ◌++◌, length, map, take, drop, Option, Some, None, Result, Ok, Err, ◌==◌, nat_lt, if◌then◌else◌}
use Rattle.std.specs.Int.{w32, w64, from_le_bytes}
use Rattle.rx_base.specs.Results.{◌>>=◌}
use Rattle.rx_wire.specs.declared.faults.WireFault.{WireFault}
use Rattle.rx_wire.specs.declared.faults.WireFault.TheVariants.{Truncated, BadType, ZeroField}
use Rattle.rx_wire.specs.declared.values.Value.{Value}
use Rattle.rx_wire.specs.declared.values.Value.TheVariants as values
use Rattle.rx_wire.specs.declared.values.Kind.{Kind}
use Rattle.rx_wire.specs.declared.values.Kind.TheVariants as kinds
use Rattle.rx_wire.specs.Cursor.{Cursor}
use Rattle.rx_wire.specs.Values.{Content, varint, fixed64, bytes, fixed32, Field, field_of, kind_number, kind_of}
use Rattle.rx_wire.specs.Varints.{IsVarint, varint_at}

-- ---- the bytes of fields

-- The bytes spell the value.
abbrev pub SpellsContent : Content → List ℕ → Type 0
SpellsContent (varint n) text = IsVarint text n
SpellsContent (fixed64 n) text = (length text ≡ 8) × (n ≡ from_le_bytes w64 text)
SpellsContent (bytes b) text = (len : List ℕ) × IsVarint len (length b) × (text ≡ len ++ b)
SpellsContent (fixed32 n) text = (length text ≡ 4) × (n ≡ from_le_bytes w32 text)

-- The bytes spell the field: a tag, and then the value.
pub record SpellsField (f : Field) (text : List ℕ) : Type 0 where
  pub tag : List ℕ
  pub value : List ℕ
  pub whole : text ≡ tag ++ value
  pub above : 0 < f.number
  pub below : f.number < 2 ^ 29
  pub tag_is : IsVarint tag (f.number * 8 + kind_number f.content)
  pub value_is : SpellsContent f.content value

-- The bytes spell the fields, one after the other.
abbrev pub SpellsFields : List Field → List ℕ → Type 0
SpellsFields [] text = text ≡ []
SpellsFields (f ∷ fs) text = (front : List ℕ) × (rest : List ℕ) × (text ≡ front ++ rest) × SpellsField f front × SpellsFields fs rest

-- ---- reading, with the first fault from the left

-- the value at an offset, and the offset behind it
unfoldable pub value_at : List ℕ → ℕ → ℕ → Kind → Result (Content × ℕ) WireFault
value_at text at start kinds.Varint = do
  n ← varint_at text start
  Ok (varint n.0, n.1)
value_at text at start kinds.Fixed64 =
    if nat_lt (length text - start) 8 then Err (Truncated at)
    else Ok (fixed64 (from_le_bytes w64 (take 8 (drop start text))), start + 8)
value_at text at start kinds.Bytes = do
  n ← varint_at text start
  if nat_lt (length text - n.1) n.0 then Err (Truncated start) else Ok (bytes (take n.0 (drop n.1 text)), n.1 + n.0)
value_at text at start kinds.Fixed32 =
    if nat_lt (length text - start) 4 then Err (Truncated at)
    else Ok (fixed32 (from_le_bytes w32 (take 4 (drop start text))), start + 4)

-- where the content begins, of a value that ends at an offset: behind the length, where it has one
abbrev pub content_at : Content → ℕ → ℕ → ℕ
content_at (varint n) start end = start
content_at (fixed64 n) start end = start
content_at (bytes b) start end = end - length b
content_at (fixed32 n) start end = start

-- A field with its place: the offset behind its tag, that of its content, and the one behind it.
pub record Placed : Type 0 where
  pub field : Field
  pub behind_tag : ℕ
  pub content : ℕ
  pub end : ℕ

abbrev pub placed : ℕ → ℕ → Content × ℕ → Placed
placed number start v = record { field = record { number = number; content = v.0 }; behind_tag = start; content = content_at v.0 start v.1; end = v.1 }

-- the greatest tag: tags have 32 bits
abbrev pub greatest_tag : ℕ
greatest_tag = 4294967295

-- the field behind a tag
unfoldable pub tagged_at : List ℕ → ℕ → ℕ → ℕ → Option Kind → Result Placed WireFault
tagged_at text at start number None = Err (BadType at)
tagged_at text at start number (Some kind) =
    if number == 0 then Err (ZeroField at)
    else do
      v ← value_at text at start kind
      Ok (placed number start v)

-- the field at an offset
unfoldable pub field_at : List ℕ → ℕ → Result Placed WireFault
field_at text at = do
  tag ← varint_at text at
  if nat_lt greatest_tag tag.0 then Err (BadType at) else tagged_at text at tag.1 (tag.0 / 8) (kind_of tag.0)

-- ---- one call after the other

abbrev pub placed_before : ℕ → Value → Cursor → Placed
placed_before number value now = record { field = field_of number value; behind_tag = now.behind_tag; content = now.content; end = now.at }

-- One call of `next`: a field, the end, or the fault at this place, which stays.
abbrev pub Next : Cursor → Result (Option (ℕ × Value)) WireFault → Cursor → Type 0
Next old (Ok None) new = (old.at ≡ length old.bytes) × (new ≡ old)
Next old (Ok (Some f)) new = (old.at < length old.bytes) × (new.bytes ≡ old.bytes) × (field_at old.bytes old.at ≡ Ok (placed_before f.0 f.1 new))
Next old (Err fault) new = (old.at < length old.bytes) × (new ≡ old) × (field_at old.bytes old.at ≡ Err fault)

-- From one offset to another the bytes spell the field.
pub record Reads (all : List ℕ) (at end : ℕ) (f : Field) : Type 0 where
  pub text : List ℕ
  pub parts : drop at all ≡ text ++ drop end all
  pub size : end ≡ at + length text
  pub spelled : SpellsField f text

-- the answer is this field
abbrev pub IsField : Field → Result (Option (ℕ × Value)) WireFault → Type 0
IsField f (Ok (Some g)) = field_of g.0 g.1 ≡ f
IsField f (Ok None) = ⊥
IsField f (Err fault) = ⊥

-- where the value is bytes, they are those from the content's offset to the field's end
abbrev pub IsInside : Value → List ℕ → ℕ → ℕ → Type 0
IsInside (values.Varint n) all content end = Unit {0}
IsInside (values.Fixed64 n) all content end = Unit {0}
IsInside (values.Bytes b) all content end = drop content (take end all) ≡ b.now
IsInside (values.Fixed32 n) all content end = Unit {0}

-- Reading from an offset on gives these fields one after the other, and then the end or this fault.
abbrev pub ReadsAll : List ℕ → ℕ → List Placed → Option WireFault → Type 0
ReadsAll all at [] None = at ≡ length all
ReadsAll all at [] (Some fault) = (at < length all) × (field_at all at ≡ Err fault)
ReadsAll all at (p ∷ ps) fault = (at < length all) × (field_at all at ≡ Ok p) × ReadsAll all p.end ps fault

-- the fields, without their places
abbrev pub fields_of : List Placed → List Field
fields_of ps = map (λ (p : Placed). p.field) ps
