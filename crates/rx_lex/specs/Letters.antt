-- The first two phases of translation ([lex.phases] 1 and 2): the byte-order mark at the text's front and the splices are removed. What is left are letters.
use Rattle.std.specs.Prelude.{ℕ, zero, suc, Bool, true, false, ◌==◌, ◌||◌, if◌then◌else◌, List, [], ◌∷◌, map, drop, length, slice_index, Option, None, Some, ◌≡◌, ◌+◌, ◌<◌, ◌≤◌, nat_eq, nat_lt}
use Rattle.std.specs.List.{starts_with}

-- A byte that is left, and whether a splice was removed just behind it.
pub record Letter : Type 0 where
  pub byte : ℕ
  pub split : Bool

abbrev pub bytes : List Letter → List ℕ
bytes = map (λ l. l.byte)

-- whether the letters begin with these bytes
abbrev pub begins : List ℕ → List Letter → Bool
begins [] ls = true
begins (b ∷ bs) [] = false
begins (b ∷ bs) (l ∷ ls) = if l.byte == b then begins bs ls else false

-- space, tab, vertical tab, form feed, CR
abbrev pub is_blank : ℕ → Bool
is_blank b = b == 32 || b == 9 || b == 11 || b == 12 || b == 13

abbrev pub one_more : ℕ → ℕ
one_more zero = 0
one_more (suc n) = suc (suc n)

-- How many bytes of a splice follow its backslash: blanks and a LF. 0 where there is no splice.
abbrev pub splice_rest : List ℕ → ℕ
splice_rest [] = 0
splice_rest (b ∷ bs) = if b == 10 then 1 else if is_blank b then one_more (splice_rest bs) else 0

-- the same, of the splice whose backslash the bytes begin with
abbrev pub splice_at : List ℕ → ℕ
splice_at [] = 0
splice_at (b ∷ bs) = if b == 92 then splice_rest bs else 0

abbrev pub kept : ℕ → Letter → List Letter → List Letter
kept zero l ls = l ∷ ls
kept (suc skip) l ls = ls

-- The letters of a text whose first `skip` bytes still belong to a splice. A byte is a letter where no splice begins at it.
abbrev pub letters_from : ℕ → List ℕ → List Letter
letters_from skip [] = []
letters_from (suc skip) (b ∷ bs) = letters_from skip bs
letters_from zero (b ∷ bs) =
    let skip = splice_at (b ∷ bs) in
    kept skip (record { byte = b; split = nat_lt 0 (splice_at bs) }) (letters_from skip bs)

abbrev pub byte_order_mark : List ℕ
byte_order_mark = 0xef ∷ 0xbb ∷ 0xbf ∷ []

abbrev pub without_mark : List ℕ → List ℕ
without_mark text = if starts_with nat_eq text byte_order_mark then drop 3 text else text

abbrev pub letters : List ℕ → List Letter
letters text = letters_from 0 (without_mark text)

-- the letters from a place on
abbrev pub letters_at : List ℕ → ℕ → List Letter
letters_at text at = letters_from 0 (drop at text)

-- whether a splice begins at this place
abbrev pub is_split_at : List ℕ → ℕ → Bool
is_split_at text at = nat_lt 0 (splice_at (drop at text))

-- the letter of this byte, where `next` is the place just behind the byte
abbrev pub letter_before : List ℕ → ℕ → ℕ → Letter
letter_before text byte next = record { byte = byte; split = is_split_at text next }

-- From `at` the next letter is `byte`, and `next` is the place just behind it.
pub record IsNext (text : List ℕ) (at byte next : ℕ) : Type 0 where
  pub is : letters_at text at ≡ letter_before text byte next ∷ letters_at text next
  pub on : at < next
  pub within : next ≤ length text

-- These letters are those from `place` on, which is `from` or behind it.
pub record Reaches (text : List ℕ) (from place : ℕ) (rest : List Letter) : Type 0 where
  pub is : rest ≡ letters_at text place
  pub on : from ≤ place
  pub within : place ≤ length text

-- the same of a reading that may end nowhere
abbrev pub MaybeReaches : List ℕ → ℕ → Option ℕ → Option (List Letter) → Type 0
MaybeReaches text from None rest = rest ≡ None
MaybeReaches text from (Some place) rest = (rest ≡ Some (letters_at text place)) × (from ≤ place) × (place ≤ length text)

-- a reading that gives the same from `to` on as from `from` on
pub record ReadsSame {X : Type 0} (F : List Letter → X) (text : List ℕ) (from to : ℕ) : Type 0 where
  pub same : F (letters_at text from) ≡ F (letters_at text to)
  pub on : from ≤ to
  pub within : to ≤ length text

-- a run of bytes that all fail the test
pub record Without (test : ℕ → Bool) (text : List ℕ) (from to : ℕ) : Type 0 where
  pub on : from ≤ to
  pub within : to ≤ length text
  pub none : (k : ℕ) → from ≤ k → k < to → ¬ (test (slice_index text k) ≡ true)

-- where the letters from a place on begin with these bytes, and the place behind them
abbrev pub IsBegun : List ℕ → ℕ → List ℕ → Option ℕ → Type 0
IsBegun text from wanted None = begins wanted (letters_at text from) ≡ false
IsBegun text from wanted (Some end) =
    (begins wanted (letters_at text from) ≡ true) × (letters_at text end ≡ drop (length wanted) (letters_at text from)) × (from + length wanted ≤ end) × (end ≤ length text)
