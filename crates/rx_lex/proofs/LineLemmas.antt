-- What the tokens of a line tell, one token further.
use Rattle.std.proofs.Common.{◌≡◌, ℕ, List, [], ◌∷◌, ◌++◌, refl, ap, sym, ◌∙◌, arith, Bool, true, false, cond, ◌||◌, ◌&&◌, ◌==◌}
use Rattle.std.specs.Prelude.{reverse}
use Rattle.std.proofs.lemmas.List.{reverse-append}
use Rattle.std.proofs.lemmas.Bool.Decides.{nat_tests}
use Rattle.std.proofs.Math.Bool.{and-false, or-false}
use Rattle.rx_lex.specs.Letters.{bytes}
use Rattle.rx_lex.specs.Pieces.{Piece}
use Rattle.rx_lex.specs.Line.{begins_by_open, begins_by_query, hash_marks, include_words, is_among, is_any_word, is_asking, is_directive, is_empty, is_exported, is_including, is_named, is_single, is_token, is_word, open_marks, pragma_words, query_words, same, spells, wants_header}
use Rattle.rx_lex.specs.Directives.{behind, is_line_end}
use Rattle.rx_lex.specs.Step.{behind_piece, behind_token, line_of}
use Rattle.rx_lex.specs.declared.line.Line.{Line}
use Rattle.rx_lex.proofs.StepLemmas.{same_line}

-- the last token of a longer line
reverse_more : (line : List Piece) (p : Piece) → reverse (line ++ (p ∷ [])) ≡ p ∷ reverse line
reverse_more line p = reverse-append line (p ∷ [])

-- No token is both a directive's mark and the name of a query.
apart : (hash percent line : Bool) (x y u v : Bool) → (line ≡ true → (hash ≡ false) × (percent ≡ false))
    → ((cond hash x false || (cond percent y false || false)) && (cond line u false || (cond line v false || false))) ≡ false
apart hash percent true x y u v f = rw ((f refl).0, (f refl).1) refl
apart hash percent false x y u v f = and-false (cond hash x false || (cond percent y false || false))

begins_apart : (b : ℕ) → (b == 95) ≡ true → ((b == 35) ≡ false) × ((b == 37) ≡ false)
begins_apart b h = (grind (arith, nat_tests), grind (arith, nat_tests))

marks_apart : (spelled : List ℕ) → (is_among hash_marks spelled && is_among query_words spelled) ≡ false
marks_apart [] = refl
marks_apart (b ∷ bs) =
    apart (b == 35) (b == 37) (b == 95) (same bs []) (same bs (58 ∷ []))
    (same bs (95 ∷ 104 ∷ 97 ∷ 115 ∷ 95 ∷ 105 ∷ 110 ∷ 99 ∷ 108 ∷ 117 ∷ 100 ∷ 101 ∷ []))
    (same bs (95 ∷ 104 ∷ 97 ∷ 115 ∷ 95 ∷ 105 ∷ 110 ∷ 99 ∷ 108 ∷ 117 ∷ 100 ∷ 101 ∷ 95 ∷ 110 ∷ 101 ∷ 120 ∷ 116 ∷ []))
    (begins_apart b)

no_query_by : (h w q : Bool) → (h && q) ≡ false → (h && (w && q)) ≡ false
no_query_by h true q e = e
no_query_by h false q e = and-false h

no_query : (p : Piece) → (spells hash_marks p && is_any_word query_words p) ≡ false
no_query p = no_query_by (spells hash_marks p) (is_word p.kind) (spells query_words p) (marks_apart (bytes p.text))

asking_behind : (line : List Piece) (p : Piece) → is_asking (line ++ (p ∷ [])) ≡ (is_directive line && is_any_word query_words p)
asking_behind [] p = no_query p
asking_behind (a ∷ line) p = ap (λ (xs : List Piece). is_directive (a ∷ line) && begins_by_query xs) (reverse_more (a ∷ line) p)

opens_none : (d o : Bool) → (d && (o && false)) ≡ false
opens_none d o = ap (λ (b : Bool). d && b) (and-false o) ∙ and-false d

opens_last : (d o q : Bool) → (d && (o && q)) ≡ ((d && q) && o)
opens_last true true true = refl
opens_last true true false = refl
opens_last true false true = refl
opens_last true false false = refl
opens_last false o q = refl

no_including : (a b p : Piece) (rest : List Piece) → is_including (a ∷ b ∷ (rest ++ (p ∷ []))) ≡ false
no_including a b p [] = refl
no_including a b p (q ∷ rest) = refl

wanted_behind : (line : List Piece) (p : Piece) → wants_header (line ++ (p ∷ [])) ≡ (behind_token (line_of line) p).wanted
wanted_behind [] p = opens_none (spells hash_marks p) (spells open_marks p)
wanted_behind (a ∷ []) p =
    ap (λ (b : Bool). (spells hash_marks a && is_any_word include_words p) || b) (opens_last (spells hash_marks a) (spells open_marks p) (is_any_word query_words a))
wanted_behind (a ∷ b ∷ rest) p =
    let d : Bool = spells hash_marks a in
    ap (λ (x : Bool). x || (d && begins_by_open (reverse (a ∷ b ∷ (rest ++ (p ∷ [])))))) (no_including a b p rest)
    ∙ (ap (λ (xs : List Piece). d && begins_by_open xs) (reverse_more (a ∷ b ∷ rest) p)
    ∙ opens_last d (spells open_marks p) (begins_by_query (reverse (a ∷ b ∷ rest))))

empty_behind : (line : List Piece) (p : Piece) → is_empty (line ++ (p ∷ [])) ≡ false
empty_behind [] p = refl
empty_behind (a ∷ line) p = refl

single_behind : (line : List Piece) (p : Piece) → is_single (line ++ (p ∷ [])) ≡ is_empty line
single_behind [] p = refl
single_behind (a ∷ []) p = refl
single_behind (a ∷ b ∷ line) p = refl

directive_behind : (line : List Piece) (p : Piece) → is_directive (line ++ (p ∷ [])) ≡ (behind_token (line_of line) p).directive
directive_behind [] p = refl
directive_behind (a ∷ line) p = refl

exported_behind : (line : List Piece) (p : Piece) → is_exported (line ++ (p ∷ [])) ≡ (behind_token (line_of line) p).exported
exported_behind [] p = refl
exported_behind (a ∷ []) p = refl
exported_behind (a ∷ b ∷ line) p = refl

pragma_behind : (line : List Piece) (p : Piece) → is_named pragma_words (line ++ (p ∷ [])) ≡ (behind_token (line_of line) p).pragma
pragma_behind [] p = refl
pragma_behind (a ∷ []) p = refl
pragma_behind (a ∷ b ∷ line) p = sym (or-false (is_named pragma_words (a ∷ b ∷ line)))

pub line_of_token : (line : List Piece) (p : Piece) → line_of (line ++ (p ∷ [])) ≡ behind_token (line_of line) p
line_of_token line p =
    let x : Line = line_of (line ++ (p ∷ [])) in
    let y : Line = behind_token (line_of line) p in
    same_line x.empty y.empty x.single y.single x.directive y.directive x.exported y.exported x.wanted y.wanted x.asking y.asking x.pragma y.pragma
    (empty_behind line p) (single_behind line p) (directive_behind line p) (exported_behind line p) (wanted_behind line p) (asking_behind line p)
    (pragma_behind line p)

by_kind : (e t : Bool) (line : List Piece) (p : Piece)
    → line_of (cond e [] (cond t (line ++ (p ∷ [])) line)) ≡ cond e (line_of []) (cond t (behind_token (line_of line) p) (line_of line))
by_kind true t line p = refl
by_kind false true line p = line_of_token line p
by_kind false false line p = refl

-- the line behind one more piece
pub line_of_behind : (line : List Piece) (p : Piece) → line_of (behind line p) ≡ behind_piece (line_of line) p
line_of_behind line p = by_kind (is_line_end p.kind) (is_token p.kind) line p
