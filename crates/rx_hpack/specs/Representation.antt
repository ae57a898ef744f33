-- The representations of header fields (RFC 7541 6): how each is read, and how each is spelled.
use Rattle.std.specs.Prelude.{◌≡◌, ℕ, ◌-◌, ◌<◌, List, ◌∷◌, ◌++◌, if◌then◌else◌, nat_lt, Result, Ok}
use Rattle.rx_hpack.specs.declared.fault.HpackFault.{HpackFault}
use Rattle.rx_hpack.specs.declared.representation.Indexing.{Indexing}
use Rattle.rx_hpack.specs.declared.representation.Indexing.TheVariants.{Incremental, Without, Never}
use Rattle.rx_hpack.specs.declared.representation.Name.{Name}
use Rattle.rx_hpack.specs.declared.representation.Name.TheVariants as code_name
use Rattle.rx_hpack.specs.declared.representation.Representation.{Representation}
use Rattle.rx_hpack.specs.declared.representation.Representation.TheVariants as code
use Rattle.rx_hpack.specs.Answers.{◌>>=◌}
use Rattle.rx_hpack.specs.Integer.{integer_at, IsInteger}
use Rattle.rx_hpack.specs.Text.{string_at, IsString}
use Rattle.rx_hpack.specs.DynamicTable.{Table}
use Rattle.rx_hpack.specs.Index.{field_at}

-- the name of a literal field: that of an index, or one of its own
pub data NameForm : Type 0 where
  IndexedName : ℕ → NameForm
  NewName : List ℕ → NameForm

-- a field of the tables (6.1), a literal field (6.2), or a new size of the dynamic table (6.3)
pub data Form : Type 0 where
  IndexedField : ℕ → Form
  LiteralField : Indexing → NameForm → List ℕ → Form
  NewSize : ℕ → Form

abbrev pub name_view : Name → NameForm
name_view (code_name.Indexed index) = IndexedName index
name_view (code_name.New text) = NewName text.items

abbrev pub representation_view : Representation → Form
representation_view (code.Indexed index) = IndexedField index
representation_view (code.Literal indexing name value) = LiteralField indexing (name_view name) value.items
representation_view (code.SizeUpdate size) = NewSize size

-- ---- reading, from left to right

-- The name of a literal field with this index, and the bytes after it. An index that isn't 0 stands for a field.
unfoldable pub name_at : Table → ℕ → List ℕ → Result (NameForm × List ℕ) HpackFault
name_at table index bytes =
    if nat_lt 0 index then (field_at table index >>= λ field. Ok (IndexedName index, bytes))
    else string_at bytes >>= λ name. Ok (NewName name.0, name.1)

-- a literal field whose index has this in its prefix, and the bytes after it
unfoldable pub literal_at : Table → Indexing → ℕ → ℕ → List ℕ → Result (Form × List ℕ) HpackFault
literal_at table indexing full prefix bytes = do
  index ← integer_at full prefix bytes
  name ← name_at table index.0 index.1
  value ← string_at name.1
  Ok (LiteralField indexing name.0 value.0, value.1)

-- a field of the tables whose index, or a new size which, has this in its prefix
abbrev pub indexed_at : ℕ → List ℕ → Result (Form × List ℕ) HpackFault
indexed_at prefix bytes = integer_at 127 prefix bytes >>= λ index. Ok (IndexedField index.0, index.1)

abbrev pub size_at : ℕ → List ℕ → Result (Form × List ℕ) HpackFault
size_at prefix bytes = integer_at 31 prefix bytes >>= λ size. Ok (NewSize size.0, size.1)

-- the representation that begins with this byte, before the dynamic table has changed, and the bytes after it
unfoldable pub representation_at : Table → ℕ → List ℕ → Result (Form × List ℕ) HpackFault
representation_at table first bytes =
    if nat_lt first 16 then literal_at table Without 15 first bytes
    else if nat_lt first 32 then literal_at table Never 15 (first - 16) bytes
    else if nat_lt first 64 then size_at (first - 32) bytes
    else if nat_lt first 128 then literal_at table Incremental 63 (first - 64) bytes
    else indexed_at (first - 128) bytes

-- ---- the same as a relation

-- the index of a name that isn't 0, or 0 and the name as a string
abbrev pub SpellsName : ℕ → ℕ → NameForm → List ℕ → Type 0
SpellsName full form (IndexedName index) bytes = (0 < index) × IsInteger full form bytes index
SpellsName full form (NewName name) bytes = (text : List ℕ) × (bytes ≡ form ∷ text) × IsString text name

-- the name and then the value
pub record SpellsLiteral (full form : ℕ) (name : NameForm) (value bytes : List ℕ) : Type 0 where
  pub front : List ℕ
  pub back : List ℕ
  pub spells_name : SpellsName full form name front
  pub is_value : IsString back value
  pub spelled : bytes ≡ front ++ back

-- the bits that a literal field begins with, and its index's largest prefix
abbrev pub form_of : Indexing → ℕ
form_of Incremental = 64
form_of Without = 0
form_of Never = 16

abbrev pub prefix_of : Indexing → ℕ
prefix_of Incremental = 63
prefix_of Without = 15
prefix_of Never = 15

-- These bytes spell the representation.
abbrev pub Spells : Form → List ℕ → Type 0
Spells (IndexedField index) bytes = IsInteger 127 128 bytes index
Spells (LiteralField indexing name value) bytes = SpellsLiteral (prefix_of indexing) (form_of indexing) name value bytes
Spells (NewSize size) bytes = IsInteger 31 32 bytes size
