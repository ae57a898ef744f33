-- What the words of a command say, one after the other.
use Rattle.std.specs.Prelude.{ℕ, Bool, true, false, List, [], ◌∷◌, Option, Some, None, if◌then◌else◌}
use Rattle.rx_cppflags.specs.declared.meanings.Meaning.{Meaning}
use Rattle.rx_cppflags.specs.declared.meanings.Meaning.TheVariants.{Refused}
use Rattle.rx_cppflags.specs.Places.{path_of}
use Rattle.rx_cppflags.specs.Rows.{Row, row_for, own_value, takes_next}

-- What a word says with its value, the path of the value, and the word that is told where this is refused:
-- the value's own word.
pub record Saying : Type 0 where
  pub meaning : Meaning
  pub word : List ℕ
  pub text : List ℕ
  pub path : Option (List ℕ)

-- a word that is no compile word
abbrev pub outside : List ℕ → Saying
outside word = record { meaning = Refused; word = word; text = word; path = None }

-- a value that stands in a word
abbrev pub saying : List ℕ → List (List ℕ) → Meaning → List ℕ → List ℕ → Saying
saying directory inputs meaning text word = record {
  meaning = meaning;
  word = word;
  text = text;
  path = path_of directory inputs meaning text;
}

-- a word whose value is the next word: without one it is no compile word
abbrev pub with_next : List ℕ → List (List ℕ) → Meaning → List ℕ → List (List ℕ) → Saying
with_next directory inputs meaning word [] = outside word
with_next directory inputs meaning word (next ∷ others) = saying directory inputs meaning next next

-- a word by its row, before other words
abbrev pub said_by : List ℕ → List (List ℕ) → Option Row → List ℕ → List (List ℕ) → Saying
said_by directory inputs None word others = outside word
said_by directory inputs (Some row) word others =
    if takes_next word row then with_next directory inputs row.meaning word others
    else saying directory inputs row.meaning (own_value word row) word

-- whether the word after it is its value
abbrev pub uses_next : Option Row → List ℕ → Bool
uses_next None word = false
uses_next (Some row) word = takes_next word row

-- What words say; the first of them is passed over where it was the value of the word before.
unfoldable pub sayings_after : List ℕ → List (List ℕ) → Bool → List (List ℕ) → List Saying
sayings_after directory inputs is_value [] = []
sayings_after directory inputs true (word ∷ others) = sayings_after directory inputs false others
sayings_after directory inputs false (word ∷ others) =
    said_by directory inputs (row_for word) word others
    ∷ sayings_after directory inputs (uses_next (row_for word) word) others

-- what the words of a command in this directory with these declared inputs say
abbrev pub sayings : List ℕ → List (List ℕ) → List (List ℕ) → List Saying
sayings directory inputs words = sayings_after directory inputs false words
