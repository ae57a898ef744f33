-- What the tokens that stand on a line before a place tell.
use Rattle.std.specs.Prelude.{ℕ, Bool, true, false, ◌==◌, ◌&&◌, ◌||◌, if◌then◌else◌, List, [], ◌∷◌, reverse, codes}
use Rattle.rx_lex.specs.Letters.{bytes}
use Rattle.rx_lex.specs.Pieces.{Kind, Comment, Blank, LineEnd, Word, Piece}

abbrev pub same : List ℕ → List ℕ → Bool
same [] [] = true
same (x ∷ xs) (y ∷ ys) = if x == y then same xs ys else false
same _ _ = false

abbrev pub any : {A : Type 0} → (A → Bool) → List A → Bool
any test [] = false
any test (x ∷ xs) = test x || any test xs

-- A comment is a space, and neither a space nor a line's end is a token.
abbrev pub is_token : Kind → Bool
is_token Comment = false
is_token Blank = false
is_token LineEnd = false
is_token _ = true

abbrev pub is_word : Kind → Bool
is_word Word = true
is_word _ = false

-- whether the bytes are one of these texts
abbrev pub is_among : List (List ℕ) → List ℕ → Bool
is_among texts spelled = any (same spelled) texts

abbrev pub spells : List (List ℕ) → Piece → Bool
spells texts p = is_among texts (bytes p.text)

abbrev pub is_any_word : List (List ℕ) → Piece → Bool
is_any_word words p = is_word p.kind && spells words p

abbrev pub hash_marks : List (List ℕ)
hash_marks = codes "#" ∷ codes "%:" ∷ []

abbrev pub open_marks : List (List ℕ)
open_marks = codes "(" ∷ []

abbrev pub include_words : List (List ℕ)
include_words = codes "include" ∷ codes "include_next" ∷ codes "import" ∷ []

abbrev pub query_words : List (List ℕ)
query_words = codes "__has_include" ∷ codes "__has_include_next" ∷ []

abbrev pub module_words : List (List ℕ)
module_words = codes "import" ∷ codes "module" ∷ []

abbrev pub import_words : List (List ℕ)
import_words = codes "import" ∷ []

abbrev pub export_words : List (List ℕ)
export_words = codes "export" ∷ []

abbrev pub pragma_words : List (List ℕ)
pragma_words = codes "pragma" ∷ []

abbrev pub dependency_words : List (List ℕ)
dependency_words = codes "dependency" ∷ []

abbrev pub embed_words : List (List ℕ)
embed_words = codes "embed" ∷ []

abbrev pub embed_query_words : List (List ℕ)
embed_query_words = codes "__has_embed" ∷ []

abbrev pub is_empty : List Piece → Bool
is_empty [] = true
is_empty (p ∷ line) = false

abbrev pub is_single : List Piece → Bool
is_single (p ∷ []) = true
is_single _ = false

-- a directive ([cpp.pre]): its first token is `#` or `%:`
abbrev pub is_directive : List Piece → Bool
is_directive [] = false
is_directive (mark ∷ _) = spells hash_marks mark

-- a directive by one of these names
abbrev pub is_named : List (List ℕ) → List Piece → Bool
is_named names (mark ∷ name ∷ _) = spells hash_marks mark && is_any_word names name
is_named names _ = false

-- nothing but the word `export`
abbrev pub is_exported : List Piece → Bool
is_exported (p ∷ []) = is_any_word export_words p
is_exported _ = false

-- a `#` and the name of an include directive ([cpp.include]) alone
abbrev pub is_including : List Piece → Bool
is_including (mark ∷ name ∷ []) = spells hash_marks mark && is_any_word include_words name
is_including _ = false

abbrev pub begins_by_query : List Piece → Bool
begins_by_query [] = false
begins_by_query (word ∷ _) = is_any_word query_words word

abbrev pub begins_by_open : List Piece → Bool
begins_by_open [] = false
begins_by_open (mark ∷ line) = spells open_marks mark && begins_by_query line

-- a directive whose last token is `__has_include` or `__has_include_next` ([cpp.cond])
abbrev pub is_asking : List Piece → Bool
is_asking line = is_directive line && begins_by_query (reverse line)

-- whether a header name has to stand next: behind an include directive's name, or behind `__has_include` and `(`
abbrev pub wants_header : List Piece → Bool
wants_header line = is_including line || (is_directive line && begins_by_open (reverse line))
