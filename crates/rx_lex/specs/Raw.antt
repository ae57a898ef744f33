-- Words for what the code reads of a raw literal.
use Rattle.std.specs.Prelude.{ℕ, ◌≡◌, ◌≤◌, ◌<◌, ◌+◌, List, [], ◌∷◌, ◌++◌, take, drop, length, Option, None, Some}
use Rattle.rx_lex.specs.Letters.{letters_at}
use Rattle.rx_lex.specs.Pieces.{all_at_front, behind_all, behind_text, is_delimiter, raw_prefix}
use Rattle.rx_lex.specs.declared.raw.Delimiter.{Delimiter}

-- the prefix of a raw literal behind its first letter: the place behind it, and its letters
abbrev pub IsPrefix : List ℕ → ℕ → ℕ → Option (ℕ × ℕ) → Type 0
IsPrefix text first next None = raw_prefix first (letters_at text next) ≡ 0
IsPrefix text first next (Some found) =
    (raw_prefix first (letters_at text next) ≡ found.1) × (0 < found.1) × (letters_at text found.0 ≡ drop found.1 (letters_at text next))
    × (found.1 + length (letters_at text found.0) ≡ length (letters_at text next)) × (next + found.1 ≤ found.0) × (found.0 ≤ length text)

-- these are the letters of a delimiter from a place on
pub record Delimits (text : List ℕ) (from : ℕ) (found : Delimiter) : Type 0 where
  pub is : take found.len found.bytes ≡ all_at_front is_delimiter (letters_at text from)
  pub short : found.len ≤ 16
  pub rest : behind_all is_delimiter (letters_at text from) ≡ letters_at text found.end
  pub count : found.len + length (letters_at text found.end) ≡ length (letters_at text from)
  pub on : from + found.len ≤ found.end
  pub within : found.end ≤ length text

abbrev pub IsDelimited : List ℕ → ℕ → Option Delimiter → Type 0
IsDelimited text from None = 16 < length (all_at_front is_delimiter (letters_at text from))
IsDelimited text from (Some found) = Delimits text from found

-- the end of a raw literal with this delimiter, and how many letters were passed up to it
abbrev pub IsClosed : List ℕ → ℕ → List ℕ → Option (ℕ × ℕ) → Type 0
IsClosed text from delimiter None = behind_text ((41 ∷ delimiter) ++ (34 ∷ [])) (letters_at text from) ≡ None
IsClosed text from delimiter (Some found) =
    (behind_text ((41 ∷ delimiter) ++ (34 ∷ [])) (letters_at text from) ≡ Some (letters_at text found.0))
    × (found.1 + length (letters_at text found.0) ≡ length (letters_at text from)) × (from + found.1 ≤ found.0) × (found.0 ≤ length text)
