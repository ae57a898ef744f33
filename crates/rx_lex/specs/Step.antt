-- What one piece adds.
use Rattle.std.specs.Prelude.{not, ℕ, Bool, false, ◌≡◌, ◌≤◌, ◌&&◌, ◌||◌, List, [], ◌∷◌, if◌then◌else◌, Option, None, Some, length}
use Rattle.rx_lex.specs.Letters.{letters_at, letter_before}
use Rattle.rx_lex.specs.Pieces.{Piece, front, piece}
use Rattle.rx_lex.specs.Cut.{is_hash, is_open}
use Rattle.rx_lex.specs.Line.{is_among, is_token, spells, is_any_word, hash_marks, open_marks, include_words, query_words, module_words, import_words, export_words, pragma_words, dependency_words, embed_words, embed_query_words, is_empty, is_single, is_directive, is_named, is_exported, is_asking, wants_header}
use Rattle.rx_lex.specs.Directives.{Name, is_header, is_raw, is_line_end, is_long_raw, is_hard_alone, names_of}
use Rattle.rx_lex.specs.Angled.{IsBarren}
use Rattle.rx_lex.specs.Found.{name_view}
use Rattle.rx_lex.specs.declared.found.Include.{Include}
use Rattle.rx_lex.specs.declared.cut.Kind.{Kind}
use Rattle.rx_lex.specs.declared.cut.Kind.TheVariants as code
use Rattle.rx_lex.specs.declared.line.Line.{Line}
use Rattle.rx_lex.specs.declared.step.Step.{Step}

-- what the code keeps of the tokens of a line
abbrev pub line_of : List Piece → Line
line_of line = record {
  empty = is_empty line;
  single = is_single line;
  directive = is_directive line;
  exported = is_exported line;
  wanted = wants_header line;
  asking = is_asking line;
  pragma = is_named pragma_words line;
}

-- the same behind one more token
abbrev pub behind_token : Line → Piece → Line
behind_token line p = record {
  empty = false;
  single = line.empty;
  directive = if line.empty then spells hash_marks p else line.directive;
  exported = line.empty && is_any_word export_words p;
  wanted = (line.single && line.directive && is_any_word include_words p) || (line.asking && spells open_marks p);
  asking = line.directive && is_any_word query_words p;
  pragma = line.pragma || (line.single && line.directive && is_any_word pragma_words p);
}

-- the same behind one more piece
abbrev pub behind_piece : Line → Piece → Line
behind_piece line p = if is_line_end p.kind then line_of [] else if is_token p.kind then behind_token line p else line

-- whether a piece makes the file hard behind such a line
abbrev pub is_hard_after : Line → Piece → Bool
is_hard_after line p =
    (line.wanted && not (is_header p.kind) && (is_token p.kind || is_line_end p.kind))
    || (line.directive && ((line.single && is_any_word embed_words p) || is_any_word embed_query_words p))
    || (line.pragma && is_any_word dependency_words p)
    || ((line.empty && is_any_word module_words p) || (line.exported && is_any_word import_words p))
    || (line.directive && is_long_raw p)

-- The same by the kind of the code and the spelling of a word.
abbrev pub behind_word : Line → List ℕ → Line
behind_word line spelled = record {
  empty = false;
  single = line.empty;
  directive = not line.empty && line.directive;
  exported = line.empty && is_among export_words spelled;
  wanted = (line.single && line.directive) && is_among include_words spelled;
  asking = line.directive && is_among query_words spelled;
  pragma = line.pragma || ((line.single && line.directive) && is_among pragma_words spelled);
}

abbrev pub behind_mark : Line → Bool → Bool → Line
behind_mark line hash opens = record {
  empty = false;
  single = line.empty;
  directive = if line.empty then hash else line.directive;
  exported = false;
  wanted = line.asking && opens;
  asking = false;
  pragma = line.pragma;
}

abbrev pub line_behind : Line → Kind → List ℕ → Line
line_behind line code.Comment spelled = line
line_behind line code.Blank spelled = line
line_behind line code.LineEnd spelled = line_of []
line_behind line code.Word spelled = behind_word line spelled
line_behind line kind spelled = behind_mark line (is_hash kind) (is_open kind)

abbrev pub is_hard_word : Line → List ℕ → Bool
is_hard_word line spelled =
    (line.directive && ((line.single && is_among embed_words spelled) || is_among embed_query_words spelled))
    || (line.pragma && is_among dependency_words spelled)
    || (line.empty && is_among module_words spelled)
    || (line.exported && is_among import_words spelled)

abbrev pub is_hard_kind : Line → Kind → List ℕ → Bool
is_hard_kind line code.Comment spelled = false
is_hard_kind line code.Blank spelled = false
is_hard_kind line code.Header spelled = false
is_hard_kind line code.Word spelled = line.wanted || is_hard_word line spelled
is_hard_kind line (code.Raw long) spelled = line.wanted || (line.directive && long)
is_hard_kind line kind spelled = line.wanted

abbrev pub names_in : Option Include → List Name
names_in None = []
names_in (Some name) = name_view name ∷ []

-- What the piece gives whose first letter is `first`, before `next`, behind such a line.
pub record Steps (text : List ℕ) (line : Line) (first next : ℕ) (step : Step) : Type 0 where
  pub on : next ≤ step.end
  pub within : step.end ≤ length text
  pub known : IsBarren text step.end step.barren
  pub rest : (front line.wanted first (letters_at text next)).rest ≡ letters_at text step.end
  pub names : names_of (piece (front line.wanted first (letters_at text next)) (letter_before text first next ∷ letters_at text next)) ≡ names_in step.name
  pub hard : (is_hard_alone (piece (front line.wanted first (letters_at text next)) (letter_before text first next ∷ letters_at text next))
      || is_hard_after line (piece (front line.wanted first (letters_at text next)) (letter_before text first next ∷ letters_at text next))) ≡ step.hard
  pub raw : is_raw (front line.wanted first (letters_at text next)).kind ≡ step.raw
  pub line_is : behind_piece line (piece (front line.wanted first (letters_at text next)) (letter_before text first next ∷ letters_at text next)) ≡ step.line
