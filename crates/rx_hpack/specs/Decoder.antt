-- What a header block means (RFC 7541 3.2): the list of its headers, and the dynamic table after it.
use Rattle.std.specs.Prelude.{◌≡◌, ℕ, ◌||◌, not, zero, suc, List, [], ◌∷◌, ◌++◌, length, if◌then◌else◌, nat_lt, ◌==◌, Option, Some, None, Result, Ok, Err}
use Rattle.std.specs.Global.{Vec}
use Rattle.rx_hpack.specs.declared.fault.HpackFault.{HpackFault}
use Rattle.rx_hpack.specs.declared.fault.HpackFault.TheVariants.{BadInteger, SizeUpdate, NoMemory}
use Rattle.rx_hpack.specs.declared.header.Header.{Header}
use Rattle.rx_hpack.specs.declared.representation.Indexing.{Indexing}
use Rattle.rx_hpack.specs.declared.representation.Indexing.TheVariants.{Incremental, Without, Never}
use Rattle.rx_hpack.specs.Answers.{◌>>=◌, Fails}
use Rattle.rx_hpack.specs.Header.{Field, views}
use Rattle.rx_hpack.specs.DynamicTable.{Table, inserted, resized}
use Rattle.rx_hpack.specs.Index.{field_at}
use Rattle.rx_hpack.specs.HeaderList.{kept}
use Rattle.rx_hpack.specs.Representation.{NameForm, Form, IndexedName, NewName, IndexedField, LiteralField, NewSize, representation_at, Spells}

-- ---- one representation

-- the name of a literal field
abbrev pub named : Table → NameForm → Result (List ℕ) HpackFault
named table (IndexedName index) = field_at table index >>= λ field. Ok field.name
named table (NewName name) = Ok name

-- the dynamic table once a literal field was read
abbrev pub learned : Indexing → Field → Table → Table
learned Incremental field table = inserted field table
learned Without field table = table
learned Never field table = table

-- the headers so far, and the dynamic table
pub record Progress : Type 0 where
  pub fields : List Field
  pub table : Table

abbrev pub with_field : List Field → Table → Indexing → Field → Result Progress HpackFault
with_field fields table indexing field = kept fields field >>= λ more. Ok (record { fields = more; table = learned indexing field table })

-- What a representation does (6.1 to 6.3). A size update stands only before the first header, and is at most 4,096.
unfoldable pub applied : List Field → Table → Form → Result Progress HpackFault
applied fields table (IndexedField index) = field_at table index >>= λ field. with_field fields table Without field
applied fields table (LiteralField indexing name value) = named table name >>= λ name. with_field fields table indexing (record { name = name; value = value })
applied fields table (NewSize size) =
    if not (length fields == 0) || nat_lt 4096 size then Err SizeUpdate
    else Ok (record { fields = fields; table = resized size table })

-- ---- a whole block

-- Representations one after the other. Each has a byte at least, so as many are read at most as there are bytes.
unfoldable pub block_from : ℕ → List Field → Table → List ℕ → Result Progress HpackFault
block_from most fields table [] = Ok (record { fields = fields; table = table })
block_from zero fields table (first ∷ bytes) = Err BadInteger
block_from (suc most) fields table (first ∷ bytes) = do
  read ← representation_at table first bytes
  next ← applied fields table read.0
  block_from most next.fields next.table read.1

unfoldable pub block_of : Table → List ℕ → Result Progress HpackFault
block_of table bytes = block_from (length bytes) [] table bytes

-- ---- the same as a relation

-- Representations that are spelled one after the other.
abbrev pub AreSpelled : List Form → List ℕ → Type 0
AreSpelled [] bytes = bytes ≡ []
AreSpelled (read ∷ reads) bytes = (front : List ℕ) × (back : List ℕ) × (bytes ≡ front ++ back) × Spells read front × AreSpelled reads back

-- what they do, in their order
abbrev pub processed : List Field → Table → List Form → Result Progress HpackFault
processed fields table [] = Ok (record { fields = fields; table = table })
processed fields table (read ∷ reads) = applied fields table read >>= λ next. processed next.fields next.table reads

-- The bytes are a block of the fields where the one dynamic table was before it, and the other is after it.
pub record IsBlock (old : Table) (bytes : List ℕ) (fields : List Field) (new : Table) : Type 0 where
  pub reads : List Form
  pub are_spelled : AreSpelled reads bytes
  pub gives : processed [] old reads ≡ Ok (record { fields = fields; table = new })

-- ---- the decoder

-- It reads on with its dynamic table, or answers its refusal for good.
pub data State : Type 0 where
  Ready : Table → State
  Refused : HpackFault → State

abbrev pub state_of : Option HpackFault → Table → State
state_of None table = Ready table
state_of (Some fault) table = Refused fault

-- an answer without where its headers lie in memory
abbrev pub seen : Result (Vec Header) HpackFault → Result (List Field) HpackFault
seen (Ok headers) = Ok (views headers.items)
seen (Err e) = Err e

-- The answer to a block, and the table after it, are what the block gives, unless memory ran out.
abbrev pub DecodesBlock : Table → List ℕ → Result (List Field) HpackFault → Table → Type 0
DecodesBlock old bytes (Ok fields) new = block_of old bytes ≡ Ok (record { fields = fields; table = new })
DecodesBlock old bytes (Err e) new = Fails e (block_of old bytes)

-- The same of the decoder: after a refusal it answers that refusal.
abbrev pub Decodes : State → List ℕ → Result (List Field) HpackFault → State → Type 0
Decodes (Refused fault) bytes result new = (result ≡ Err fault) × (new ≡ Refused fault)
Decodes (Ready old) bytes (Ok fields) (Ready new) = block_of old bytes ≡ Ok (record { fields = fields; table = new })
Decodes (Ready old) bytes (Ok fields) (Refused fault) = ⊥
Decodes (Ready old) bytes (Err e) new = Fails e (block_of old bytes) × (new ≡ Refused e)

-- The bytes are a block of the fields between the tables of two states.
abbrev pub StandsFor : State → List ℕ → List Field → State → Type 0
StandsFor (Ready old) bytes fields (Ready new) = IsBlock old bytes fields new
StandsFor (Ready old) bytes fields (Refused fault) = ⊥
StandsFor (Refused fault) bytes fields new = ⊥

-- The answer is this list with this table after it, unless memory ran out.
abbrev pub Reaches : List Field → Table → Result (List Field) HpackFault → State → Type 0
Reaches fields table (Ok found) new = (found ≡ fields) × (new ≡ Ready table)
Reaches fields table (Err NoMemory) new = new ≡ Refused NoMemory
Reaches fields table (Err e) new = ⊥

-- what doing a representation answers and leaves
abbrev pub Leaves : Result Progress HpackFault → Result (Unit {0}) HpackFault → List Field → Table → Type 0
Leaves read (Ok _) fields table = read ≡ Ok (record { fields = fields; table = table })
Leaves read (Err e) fields table = Fails e read
