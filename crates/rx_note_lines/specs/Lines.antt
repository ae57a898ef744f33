-- A note as a line of text, and as one of JSON.
use Rattle.std.specs.Prelude.{ℕ, List, [], ◌∷◌, ◌++◌, codes, decimal}
use Rattle.serde_json.specs.Data.{Data, Items, number, unsigned, string, array, object, item, no_items, member, no_members}
use Rattle.serde_json.specs.Written.{compact_text}
use Rattle.rx_report.specs.declared.notes.Note.{Note}
use Rattle.rx_report.specs.declared.notes.What.{What}
use Rattle.rx_report.specs.declared.notes.What.TheVariants as what
use Rattle.rx_world.specs.declared.attempts.Attempt.{Attempt}
use Rattle.rx_world.specs.declared.attempts.Attempt.TheVariants as whose

-- ---- what a session did: a name, and numbers

abbrev pub name_of : What → List ℕ
name_of what.Admitted = codes "admitted"
name_of (what.Gathered files) = codes "gathered"
name_of (what.Started attempt) = codes "started"
name_of (what.Ended attempt cause) = codes "ended"
name_of (what.Published entry placed) = codes "published"
name_of (what.Replied reply) = codes "replied"

abbrev pub attempt_number_of : Attempt → ℕ
attempt_number_of whose.Local = 1
attempt_number_of whose.Remote = 2

abbrev pub numbers_of : What → List ℕ
numbers_of what.Admitted = []
numbers_of (what.Gathered files) = files ∷ []
numbers_of (what.Started attempt) = attempt_number_of attempt ∷ []
numbers_of (what.Ended attempt cause) = attempt_number_of attempt ∷ cause ∷ []
numbers_of (what.Published entry placed) = entry ∷ placed ∷ []
numbers_of (what.Replied reply) = reply ∷ []

-- ---- text

-- each has a space before it
abbrev pub spaced : List ℕ → List ℕ
spaced [] = []
spaced (n ∷ ns) = 32 ∷ (decimal n ++ spaced ns)

-- NAME N1 N2
abbrev pub kind_of : What → List ℕ
kind_of w = name_of w ++ spaced (numbers_of w)

-- session S step K
abbrev pub head_of : ℕ → ℕ → List ℕ
head_of session step = codes "session " ++ decimal session ++ codes " step " ++ decimal step

-- session S step K NAME N1 N2
abbrev pub text_line_of : Note → List ℕ
text_line_of note = head_of note.session note.step ++ codes " " ++ kind_of note.what ++ codes "\n"

-- ---- JSON

abbrev pub items_of : List ℕ → Items
items_of [] = no_items
items_of (n ∷ ns) = item (number (unsigned n)) (items_of ns)

abbrev pub data_of : Note → Data
data_of note =
    object (member (codes "name") (string (name_of note.what)) (member (codes "numbers") (array (items_of (numbers_of note.what)))
    (member (codes "session") (number (unsigned note.session)) (member (codes "step") (number (unsigned note.step)) no_members))))

-- {"name":"NAME","numbers":[N1,N2],"session":S,"step":K}
abbrev pub json_line_of : Note → List ℕ
json_line_of note = compact_text (data_of note) ++ codes "\n"
