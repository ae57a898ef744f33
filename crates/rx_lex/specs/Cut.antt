-- A cut of the code against a piece of the definition.
use Rattle.std.specs.Prelude.{ℕ, Bool, true, false, ◌≡◌, ◌≤◌, ◌==◌, ◌||◌, List, ◌∷◌, Option, None, Some, length}
use Rattle.rx_lex.specs.Letters.{Letter, bytes, letters_at, letter_before}
use Rattle.rx_lex.specs.Pieces.{Front, Piece, piece, Kind as PieceKind, Comment, Literal, Raw, Header, Number, Word, Blank, LineEnd, Mark}
use Rattle.rx_lex.specs.Line.{any, is_word, spells, hash_marks, open_marks}
use Rattle.rx_lex.specs.Directives.{is_hard_alone, is_long_raw, is_header, name_in}
use Rattle.rx_lex.specs.Header.{closing, header_bytes}
use Rattle.rx_lex.specs.Words.{word_bytes}
use Rattle.rx_lex.specs.declared.cut.Cut.{Cut}
use Rattle.rx_lex.specs.declared.cut.Kind.{Kind}
use Rattle.rx_lex.specs.declared.cut.Kind.TheVariants as code

abbrev pub kind_view : Kind → PieceKind
kind_view code.Comment = Comment
kind_view code.Literal = Literal
kind_view (code.Raw long) = Raw
kind_view code.Header = Header
kind_view code.Number = Number
kind_view code.Word = Word
kind_view code.Blank = Blank
kind_view code.LineEnd = LineEnd
kind_view code.Hash = Mark
kind_view code.Open = Mark
kind_view code.Mark = Mark

abbrev pub is_hash : Kind → Bool
is_hash code.Hash = true
is_hash _ = false

abbrev pub is_open : Kind → Bool
is_open code.Open = true
is_open _ = false

abbrev pub is_long : Kind → Bool
is_long (code.Raw long) = long
is_long _ = false

abbrev pub front_view : List ℕ → Cut → Front
front_view text cut = record { kind = kind_view cut.kind; whole = cut.whole; rest = letters_at text cut.end }

abbrev pub seen : List ℕ → Option Cut → Option Front
seen text None = None
seen text (Some cut) = Some (front_view text cut)

-- the piece whose first letter is `first`, before `next`
abbrev pub piece_view : List ℕ → ℕ → ℕ → Cut → Piece
piece_view text first next cut = piece (front_view text cut) (letter_before text first next ∷ letters_at text next)

-- whether a splice stands behind one of these letters
abbrev pub split_in : List Letter → Bool
split_in ls = any (λ (l : Letter). l.split) ls

-- A byte that a raw literal may begin with.
abbrev pub IsRawStart : ℕ → Type 0
IsRawStart first = (first == 82 || first == 76 || first == 117 || first == 85) ≡ true

-- What the code keeps of the piece. The lines of a raw literal count only where nothing else makes the file hard.
pub record Fits (text : List ℕ) (first next : ℕ) (cut : Cut) : Type 0 where
  pub on : next ≤ cut.end
  pub within : cut.end ≤ length text
  pub alone : is_hard_alone (piece_view text first next cut) ≡ cut.hard
  pub long : cut.hard ≡ false → is_long_raw (piece_view text first next cut) ≡ is_long cut.kind
  pub hash : spells hash_marks (piece_view text first next cut) ≡ is_hash cut.kind
  pub opens : spells open_marks (piece_view text first next cut) ≡ is_open cut.kind
  pub word : is_word (kind_view cut.kind) ≡ true → bytes (piece_view text first next cut).text ≡ word_bytes first (letters_at text next)
  pub named : is_header (kind_view cut.kind) ≡ true
      → name_in (piece_view text first next cut) ≡ (record { angled = first == 60; name = header_bytes (closing first) (letters_at text next) })
