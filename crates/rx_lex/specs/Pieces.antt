-- The third phase ([lex.phases] 3): the letters are cut into pieces, each the longest of its kind at its place.
use Rattle.std.specs.Prelude.{not, ℕ, zero, suc, Bool, true, false, ◌==◌, ◌&&◌, ◌||◌, ◌-◌, if◌then◌else◌, List, [], ◌∷◌, ◌++◌, take, drop, length, Option, None, Some, nat_le, codes}
use Rattle.rx_lex.specs.Letters.{Letter, begins, is_blank}

pub data Kind : Type 0 where
  Comment : Kind
  Literal : Kind
  Raw : Kind
  Header : Kind
  Number : Kind
  Word : Kind
  Blank : Kind
  LineEnd : Kind
  Mark : Kind

-- `whole` is false of a comment without end, of a literal without closing quote, and of a raw literal with a bad delimiter or without end.
pub record Piece : Type 0 where
  pub kind : Kind
  pub text : List Letter
  pub whole : Bool

-- a piece at the front of some letters, by what is left behind it
pub record Front : Type 0 where
  pub kind : Kind
  pub whole : Bool
  pub rest : List Letter

abbrev pub is_digit : ℕ → Bool
is_digit b = nat_le 48 b && nat_le b 57

abbrev pub is_name : ℕ → Bool
is_name b = is_digit b || (nat_le 65 b && nat_le b 90) || (nat_le 97 b && nat_le b 122) || b == 95

-- the letters from the first on that fails the test
abbrev pub behind_all : (ℕ → Bool) → List Letter → List Letter
behind_all test [] = []
behind_all test (l ∷ ls) = if test l.byte then behind_all test ls else l ∷ ls

-- the bytes before it
abbrev pub all_at_front : (ℕ → Bool) → List Letter → List ℕ
all_at_front test [] = []
all_at_front test (l ∷ ls) = if test l.byte then l.byte ∷ all_at_front test ls else []

-- what is left behind the first place where these bytes stand
abbrev pub behind_text : List ℕ → List Letter → Option (List Letter)
behind_text text [] = None
behind_text text (l ∷ ls) = if begins text (l ∷ ls) then Some (drop (length text) (l ∷ ls)) else behind_text text ls

abbrev pub whole : Kind → List Letter → Front
whole kind rest = record { kind = kind; whole = true; rest = rest }

abbrev pub unless_open : Kind → Option (List Letter) → Front
unless_open kind None = record { kind = kind; whole = false; rest = [] }
unless_open kind (Some rest) = whole kind rest

-- A run of blanks, or a line's end.
unfoldable pub space_at : ℕ → List Letter → Option Front
space_at b ls =
    if b == 10 then Some (whole LineEnd ls)
    else if is_blank b then Some (whole Blank (behind_all is_blank ls))
    else None

-- A comment ([lex.comment]): by `/*` up to `*/`, by `//` up to the line's end.
abbrev pub behind_block : List Letter → Option (List Letter)
behind_block = behind_text (codes "*/")

abbrev pub behind_line : List Letter → List Letter
behind_line = behind_all (λ b. not (b == 10))

unfoldable pub comment_at : ℕ → List Letter → Option Front
comment_at b [] = None
comment_at b (l ∷ ls) =
    if b == 47 && l.byte == 42 then Some (unless_open Comment (behind_block ls))
    else if b == 47 && l.byte == 47 then Some (whole Comment (behind_line ls))
    else None

-- A string or character literal ([lex.string], [lex.ccon]) ends at its quote or before the line's end. A backslash escapes the byte after it, but no line's end.
abbrev pub literal : ℕ → Bool → List Letter → Front
literal quote escaped [] = record { kind = Literal; whole = false; rest = [] }
literal quote escaped (l ∷ ls) =
    if l.byte == 10 then (record { kind = Literal; whole = false; rest = l ∷ ls })
    else if l.byte == quote && not escaped then (record { kind = Literal; whole = true; rest = ls })
    else literal quote (l.byte == 92 && not escaped) ls

unfoldable pub literal_at : ℕ → List Letter → Option Front
literal_at b ls = if b == 34 || b == 39 then Some (literal b false ls) else None

-- A raw literal ([lex.string] 5): the prefix, a delimiter of at most 16 bytes, `(`, and up to `)`, the delimiter and the quote. One with a bad delimiter is cut like another literal.
abbrev pub is_delimiter : ℕ → Bool
is_delimiter b = not (is_blank b || b == 10 || b == 40 || b == 41 || b == 92)

abbrev pub raw : List Letter → Front
raw ls =
    let delimiter = all_at_front is_delimiter ls in
    let body = behind_all is_delimiter ls in
    if nat_le (length delimiter) 16 && begins (codes "(") body
    then unless_open Raw (behind_text ((41 ∷ delimiter) ++ (34 ∷ [])) body)
    else (record { kind = Raw; whole = false; rest = (literal 34 false ls).rest })

-- How many letters of the prefix of a raw literal, with its quote, follow the first one; 0 where none stands here.
abbrev pub raw_prefix : ℕ → List Letter → ℕ
raw_prefix b ls =
    if b == 82 && begins (codes "\"") ls then 1
    else if (b == 76 || b == 117 || b == 85) && begins (codes "R\"") ls then 2
    else if b == 117 && begins (codes "8R\"") ls then 3
    else 0

abbrev pub raw_behind : ℕ → List Letter → Option Front
raw_behind zero ls = None
raw_behind (suc n) ls = Some (raw (drop (suc n) ls))

unfoldable pub raw_at : ℕ → List Letter → Option Front
raw_at b ls = raw_behind (raw_prefix b ls) ls

-- A number ([lex.ppnumber]) goes on by steps. A step takes `'` with the byte of a name behind it, or e, E, p or P with
-- the sign behind it, or one digit, letter, `_` or `.`. So the `e` of `'e` was taken already, and begins no sign.
abbrev pub is_exponent : ℕ → Bool
is_exponent b = b == 101 || b == 69 || b == 112 || b == 80

abbrev pub is_sign : ℕ → Bool
is_sign b = b == 43 || b == 45

abbrev pub is_double_step : ℕ → ℕ → Bool
is_double_step b c = (b == 39 && is_name c) || (is_exponent b && is_sign c)

abbrev pub is_single_step : ℕ → Bool
is_single_step b = is_name b || b == 46

abbrev pub behind_number : List Letter → List Letter
behind_number [] = []
behind_number (l ∷ []) = if is_single_step l.byte then [] else l ∷ []
behind_number (l ∷ m ∷ ls) =
    if is_double_step l.byte m.byte then behind_number ls
    else if is_single_step l.byte then behind_number (m ∷ ls)
    else l ∷ m ∷ ls

abbrev pub begins_name : List Letter → Bool
begins_name [] = false
begins_name (l ∷ ls) = is_name l.byte

abbrev pub begins_digit : List Letter → Bool
begins_digit [] = false
begins_digit (l ∷ ls) = is_digit l.byte

unfoldable pub number_at : ℕ → List Letter → Option Front
number_at b ls = if is_digit b || (b == 46 && begins_digit ls) then Some (whole Number (behind_number ls)) else None

-- A word ([lex.name]) of letters, digits and `_`.
unfoldable pub word_at : ℕ → List Letter → Option Front
word_at b ls = if is_name b then Some (whole Word (behind_all is_name ls)) else None

-- Anything else ([lex.operators]): `%:%:`, `%:`, `##` or one byte.
unfoldable pub mark_at : ℕ → List Letter → Front
mark_at b ls =
    if b == 37 && begins (codes ":%:") ls then whole Mark (drop 3 ls)
    else if (b == 37 && begins (codes ":") ls) || (b == 35 && begins (codes "#") ls) then whole Mark (drop 1 ls)
    else whole Mark ls

-- A header name ([lex.header]), where one has to stand: `<` up to `>`, or `"` up to `"`, on one line.
abbrev pub behind_header : ℕ → List Letter → Option (List Letter)
behind_header close [] = None
behind_header close (l ∷ ls) =
    if l.byte == 10 then None else if l.byte == close then Some ls else behind_header close ls

abbrev pub header_end : Option (List Letter) → Option Front
header_end None = None
header_end (Some rest) = Some (whole Header rest)

unfoldable pub header_at : Bool → ℕ → List Letter → Option Front
header_at wanted b ls =
    if wanted && b == 60 then header_end (behind_header 62 ls)
    else if wanted && b == 34 then header_end (behind_header 34 ls)
    else None

abbrev pub or_else : Option Front → Front → Front
or_else None other = other
or_else (Some front) other = front

-- The piece at the front of a letter of this byte and the letters after it, where no header name stands.
unfoldable pub plain_front : ℕ → List Letter → Front
plain_front b ls =
    or_else (space_at b ls)
    (or_else (comment_at b ls)
    (or_else (raw_at b ls)
    (or_else (literal_at b ls)
    (or_else (number_at b ls)
    (or_else (word_at b ls)
    (mark_at b ls))))))

-- The same anywhere; `wanted` says that a header name has to stand here.
unfoldable pub front : Bool → ℕ → List Letter → Front
front wanted b ls = or_else (header_at wanted b ls) (plain_front b ls)

abbrev pub piece : Front → List Letter → Piece
piece front ls = record {
  kind = front.kind;
  whole = front.whole;
  text = take (length ls - length front.rest) ls;
}
