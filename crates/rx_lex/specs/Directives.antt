-- The fourth phase ([lex.phases] 4), as far as it needs no macros: the pieces stand on lines, and from the lines come the includes and the mark `hard`.
use Rattle.std.specs.Prelude.{not, ℕ, zero, suc, Bool, true, false, ◌==◌, ◌&&◌, ◌||◌, ◌-◌, if◌then◌else◌, List, [], ◌∷◌, ◌++◌, take, drop, length, flat_map, codes}
use Rattle.rx_lex.specs.Letters.{Letter, bytes, begins, letters}
use Rattle.rx_lex.specs.Pieces.{Kind, Literal, Raw, Header, LineEnd, Piece, front, piece}
use Rattle.rx_lex.specs.Line.{any, is_token, is_any_word, is_empty, is_single, is_directive, is_named, is_exported, wants_header, module_words, import_words, pragma_words, dependency_words, embed_words, embed_query_words}

-- the name of a header, as it stands between its quotes or angle brackets
pub record Name : Type 0 where
  pub angled : Bool
  pub name : List ℕ

pub record Found : Type 0 where
  pub list : List Name
  pub hard : Bool
  pub raw : Bool

abbrev pub is_line_end : Kind → Bool
is_line_end LineEnd = true
is_line_end _ = false

abbrev pub is_header : Kind → Bool
is_header Header = true
is_header _ = false

abbrev pub is_raw : Kind → Bool
is_raw Raw = true
is_raw _ = false

abbrev pub is_literal : Kind → Bool
is_literal Literal = true
is_literal _ = false

abbrev pub contains : List ℕ → List Letter → Bool
contains text [] = false
contains text (l ∷ ls) = begins text (l ∷ ls) || contains text ls

-- A header name has to stand here, and something else does.
abbrev pub lacks_header : List Piece → Piece → Bool
lacks_header line p = wants_header line && not (is_header p.kind) && (is_token p.kind || is_line_end p.kind)

-- the directive `embed`, or `__has_embed` on a directive line
abbrev pub embeds : List Piece → Piece → Bool
embeds line p = is_directive line && ((is_single line && is_any_word embed_words p) || is_any_word embed_query_words p)

-- the word `dependency` in a directive `pragma`
abbrev pub names_dependency : List Piece → Piece → Bool
names_dependency line p = is_named pragma_words line && is_any_word dependency_words p

-- a line that begins with `import` or `module`, or with `export` and `import`
abbrev pub opens_module : List Piece → Piece → Bool
opens_module line p = (is_empty line && is_any_word module_words p) || (is_exported line && is_any_word import_words p)

-- a raw literal that goes over lines
abbrev pub is_long_raw : Piece → Bool
is_long_raw p = is_raw p.kind && contains (10 ∷ []) p.text

-- whether the piece makes the file hard behind these tokens of its line
abbrev pub is_hard_behind : List Piece → Piece → Bool
is_hard_behind line p =
    lacks_header line p || embeds line p || names_dependency line p || opens_module line p || (is_directive line && is_long_raw p)

-- a comment or a raw literal without end, or a literal without closing quote that has `/*` after its opening one
abbrev pub is_cut_off : Piece → Bool
is_cut_off p = not p.whole && (not (is_literal p.kind) || contains (codes "/*") (drop 1 p.text))

-- a raw literal with a splice inside
abbrev pub is_split_raw : Piece → Bool
is_split_raw p = is_raw p.kind && any (λ l. l.split) (take (length p.text - 1) p.text)

-- whether the piece makes the file hard wherever it stands
abbrev pub is_hard_alone : Piece → Bool
is_hard_alone p = is_cut_off p || is_split_raw p

abbrev pub has_lone_return : List Letter → Bool
has_lone_return [] = false
has_lone_return (l ∷ ls) = (l.byte == 13 && not (begins (10 ∷ []) ls)) || has_lone_return ls

-- What makes a file hard anywhere: the trigraphs of `#` and of the backslash, `.incbin`, a CR without LF.
abbrev pub is_hard_anywhere : List Letter → Bool
is_hard_anywhere ls =
    contains (codes "?" ++ codes "?=") ls || contains (codes "?" ++ codes "?/") ls || contains (codes ".incbin") ls || has_lone_return ls

-- a piece, and the tokens that stand before it on its line
pub record Placed : Type 0 where
  pub before : List Piece
  pub piece : Piece

abbrev pub behind : List Piece → Piece → List Piece
behind line p = if is_line_end p.kind then [] else if is_token p.kind then line ++ (p ∷ []) else line

-- The pieces of the letters, behind these tokens of a line; there are fewer than `most`. The text's end ends its last line.
abbrev pub placed : ℕ → List Piece → List Letter → List Placed
placed zero line ls = []
placed (suc most) line [] = (record { before = line; piece = record { kind = LineEnd; text = []; whole = true } }) ∷ []
placed (suc most) line (l ∷ ls) =
    let first = front (wants_header line) l.byte ls in
    let p = piece first (l ∷ ls) in
    (record { before = line; piece = p }) ∷ placed most (behind line p) first.rest

-- the name in a header name
abbrev pub name_in : Piece → Name
name_in p = record { angled = begins (codes "<") p.text; name = take (length p.text - 2) (drop 1 (bytes p.text)) }

-- Only header names are includes, and one is cut only where it has to stand.
abbrev pub names_of : Piece → List Name
names_of p = if is_header p.kind then name_in p ∷ [] else []

abbrev pub found_in : List Letter → List Placed → Found
found_in ls pieces = record {
  list = flat_map (λ (at : Placed). names_of at.piece) pieces;
  hard = any (λ (at : Placed). is_hard_alone at.piece || is_hard_behind at.before at.piece) pieces || is_hard_anywhere ls;
  raw = any (λ (at : Placed). is_raw at.piece.kind) pieces;
}

-- what a text includes: all of its branches count
abbrev pub directives_of : List ℕ → Found
directives_of text =
    let ls = letters text in
    found_in ls (placed (suc (length ls)) [] ls)
