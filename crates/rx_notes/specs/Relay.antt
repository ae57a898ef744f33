-- One pass sends and one takes: what was sent is what was taken, and then what the queue holds.
use Rattle.std.specs.Prelude.{◌≡◌, ℕ, Bool, true, false, List, [], ◌∷◌, ◌++◌, ◌||◌, Option, None, Some, if◌then◌else◌}
use mathlib.Core.Option.{some}
use lib.ListN.{get_elem?}
use Rattle.atomic_table.specs.Seated.{TableId}
use Rattle.rx_report.specs.declared.notes.Note.{Note}
use Rattle.rx_notes.specs.declared.relays.Part.{Part}

abbrev pub part : Bool → Bool → List Note → List Note → Part
part sends takes sent got = record { sends = sends; takes = takes; sent = sent; got = got }

-- a message as a list: the mark of the end is no note
abbrev pub note_in : Option Note → List Note
note_in None = []
note_in (Some note) = note ∷ []

abbrev pub notes_in : List (Option Note) → List Note
notes_in [] = []
notes_in (None ∷ items) = notes_in items
notes_in (Some note ∷ items) = note ∷ notes_in items

-- the pass that sends has sent all that was sent, and the one that takes has all that was taken
abbrev pub Fits : ℕ → ℕ → List Note → List Note → ℕ → Part → Type 0
Fits writer reader sent got port v =
    (v.sends ≡ true → (port ≡ writer) × (v.sent ≡ sent)) × (v.takes ≡ true → (port ≡ reader) × (v.got ≡ got))

pub record Relayed (items : List (Option Note)) (views : List Part) : Type 0 where
  pub writer : ℕ
  pub reader : ℕ
  pub sent : List Note
  pub got : List Note
  pub relayed : sent ≡ got ++ notes_in items
  pub each : (port : ℕ) (v : Part) → get_elem? views port ≡ some v → Fits writer reader sent got port v

-- what a pass learns that sends and takes: what it sent is what it took, and then what is there
abbrev pub IsRest : Part → List (Option Note) → Type 0
IsRest v items = v.sends ≡ true → v.takes ≡ true → v.sent ≡ v.got ++ notes_in items

-- ---- what steps do to a pass

abbrev pub with_sent : Part → Option Note → Part
with_sent v x = part v.sends v.takes (v.sent ++ note_in x) v.got

abbrev pub with_got : Part → Option Note → Part
with_got v x = part v.sends v.takes v.sent (v.got ++ note_in x)

abbrev pub with_more : Part → List Note → Part
with_more v more = part v.sends v.takes v.sent (v.got ++ more)

abbrev pub without_taking : Part → Part
without_taking v = part v.sends false v.sent []

abbrev pub taking : Part → Part
taking v = part false true [] v.got

-- a pass that may do nothing
abbrev pub idle : Part
idle = part false false [] []

-- one takes in the right to take of another
abbrev pub both : Part → Part → Part
both v w = part v.sends w.takes v.sent w.got

-- ---- senders

-- whether a thread takes what is sent, by which queue it goes, and what was sent
pub record Sending : Type 0 where
  pub queued : Bool
  pub table : TableId
  pub sent : List Note

-- a sender with one note more, where a thread takes it out again
abbrev pub took : Sending → Note → Sending
took s note = if s.queued then record { queued = s.queued; table = s.table; sent = s.sent ++ note ∷ [] } else s

-- a sender that sent nothing yet, to this queue
pub record IsOfLine (table : TableId) (s : Sending) : Type 0 where
  pub table_is : s.table ≡ table
  pub nothing : s.sent ≡ []

-- these reporters are told what comes by this queue
pub record IsOfTelling {T : Type 0} (table : TableId) (reporters : List T) (table_told : TableId) (told : List T) : Type 0 where
  pub table_is : table_told ≡ table
  pub reporters_are : told ≡ reporters
