-- What one piece adds, by the kind that the code tells.
use Rattle.std.proofs.Common.{◌≡◌, ℕ, ◌≤◌, List, [], ◌∷◌, length, refl, ap, arith, sym, subst, ◌∙◌, Bool, true, false, cond, not, ◌||◌, ◌&&◌, ◌==◌}
use Rattle.std.proofs.Math.Bool.{and-false, or-false}
use Rattle.rx_lex.specs.Letters.{Letter, bytes, letters_at, letter_before}
use Rattle.rx_lex.specs.Pieces.{Piece, Front, front, piece}
use Rattle.rx_lex.specs.Line.{is_word, spells, is_among, is_any_word, hash_marks, open_marks, include_words, query_words, module_words, import_words, export_words, pragma_words, dependency_words, embed_words, embed_query_words}
use Rattle.rx_lex.specs.Directives.{Name, is_header, is_raw, is_long_raw, is_hard_alone, name_in, names_of}
use Rattle.rx_lex.specs.Angled.{IsBarren}
use Rattle.rx_lex.specs.Header.{closing, header_bytes}
use Rattle.rx_lex.specs.Words.{word_bytes}
use Rattle.rx_lex.specs.Cut.{Fits, front_view, is_hash, is_long, is_open, kind_view, piece_view}
use Rattle.rx_lex.specs.Step.{Steps, behind_mark, behind_piece, behind_token, behind_word, is_hard_after, is_hard_kind, is_hard_word, line_behind, names_in}
use Rattle.rx_lex.specs.declared.cut.Cut.{Cut}
use Rattle.rx_lex.specs.declared.cut.Kind.{Kind}
use Rattle.rx_lex.specs.declared.cut.Kind.TheVariants as code
use Rattle.rx_lex.specs.declared.line.Line.{Line}
use Rattle.rx_lex.specs.declared.step.Step.{Step}

-- a line by its seven marks
pub same_line : (a a' b b' c c' d d' e e' f f' g g' : Bool) → a ≡ a' → b ≡ b' → c ≡ c' → d ≡ d' → e ≡ e' → f ≡ f' → g ≡ g'
    → let one : Line = record { empty = a; single = b; directive = c; exported = d; wanted = e; asking = f; pragma = g } in
    let two : Line = record { empty = a'; single = b'; directive = c'; exported = d'; wanted = e'; asking = f'; pragma = g' } in
    one ≡ two
same_line a a' b b' c c' d d' e e' f f' g g' p q r s t u v = rw (p, q, r, s, t, u, v) refl

not_word : (w : Bool) (x : Bool) → w ≡ false → (w && x) ≡ false
not_word w x e = rw e refl

a_word : (w : Bool) (x y : Bool) → w ≡ true → x ≡ y → (w && x) ≡ y
a_word w x y e f = rw e f

no_hash : (e d h : Bool) → h ≡ false → cond e h d ≡ (not e && d)
no_hash true d h e = e
no_hash false d h e = refl

no_open : (x a o : Bool) → o ≡ false → (x || (a && o)) ≡ x
no_open x a o e = rw (e, and-false a, or-false x) refl

word_line : (line : Line) (p : Piece) (spelled : List ℕ) → is_word p.kind ≡ true → bytes p.text ≡ spelled
    → spells hash_marks p ≡ false → spells open_marks p ≡ false → behind_token line p ≡ behind_word line spelled
word_line line p spelled w s h o =
    let word = λ (names : List (List ℕ)). a_word (is_word p.kind) (spells names p) (is_among names spelled) w (ap (λ (t : List ℕ). is_among names t) s) in
    let named : Bool = line.single && line.directive in
    let x : Line = behind_token line p in
    let y : Line = behind_word line spelled in
    same_line x.empty y.empty x.single y.single x.directive y.directive x.exported y.exported x.wanted y.wanted x.asking y.asking x.pragma y.pragma
    refl refl (no_hash line.empty line.directive (spells hash_marks p) h)
    (ap (λ (b : Bool). line.empty && b) (word export_words))
    (no_open (named && is_any_word include_words p) line.asking (spells open_marks p) o ∙ ap (λ (b : Bool). named && b) (word include_words))
    (ap (λ (b : Bool). line.directive && b) (word query_words))
    (ap (λ (b : Bool). line.pragma || (named && b)) (word pragma_words))

mark_line : (line : Line) (p : Piece) (hash opens : Bool) → is_word p.kind ≡ false → spells hash_marks p ≡ hash → spells open_marks p ≡ opens
    → behind_token line p ≡ behind_mark line hash opens
mark_line line p hash opens w h o =
    let none = λ (names : List (List ℕ)). not_word (is_word p.kind) (spells names p) w in
    let named : Bool = line.single && line.directive in
    let x : Line = behind_token line p in
    let y : Line = behind_mark line hash opens in
    same_line x.empty y.empty x.single y.single x.directive y.directive x.exported y.exported x.wanted y.wanted x.asking y.asking x.pragma y.pragma
    refl refl (ap (λ (b : Bool). cond line.empty b line.directive) h)
    (ap (λ (b : Bool). line.empty && b) (none export_words) ∙ and-false line.empty)
    (ap (λ (b : Bool). (named && b) || (line.asking && spells open_marks p)) (none include_words)
    ∙ (ap (λ (b : Bool). b || (line.asking && spells open_marks p)) (and-false named) ∙ ap (λ (b : Bool). line.asking && b) o))
    (ap (λ (b : Bool). line.directive && b) (none query_words) ∙ and-false line.directive)
    (ap (λ (b : Bool). line.pragma || (named && b)) (none pragma_words) ∙ (ap (λ (b : Bool). line.pragma || b) (and-false named) ∙ or-false line.pragma))

-- the line behind a piece, by its kind
pub line_by : (line : Line) (kind : Kind) (text : List Letter) (whole : Bool) (spelled : List ℕ) →
    let p : Piece = record { kind = kind_view kind; text = text; whole = whole } in
    (is_word (kind_view kind) ≡ true → bytes text ≡ spelled)
    → spells hash_marks p ≡ is_hash kind → spells open_marks p ≡ is_open kind → behind_piece line p ≡ line_behind line kind spelled
line_by line code.Comment text whole spelled s h o = refl
line_by line code.Blank text whole spelled s h o = refl
line_by line code.LineEnd text whole spelled s h o = refl
line_by line code.Word text whole spelled s h o = word_line line (record { kind = kind_view code.Word; text = text; whole = whole }) spelled refl (s refl) h o
line_by line code.Literal text whole spelled s h o = mark_line line (record { kind = kind_view code.Literal; text = text; whole = whole }) false false refl h o
line_by line (code.Raw long) text whole spelled s h o = mark_line line (record { kind = kind_view (code.Raw long); text = text; whole = whole }) false false refl h o
line_by line code.Header text whole spelled s h o = mark_line line (record { kind = kind_view code.Header; text = text; whole = whole }) false false refl h o
line_by line code.Number text whole spelled s h o = mark_line line (record { kind = kind_view code.Number; text = text; whole = whole }) false false refl h o
line_by line code.Hash text whole spelled s h o = mark_line line (record { kind = kind_view code.Hash; text = text; whole = whole }) true false refl h o
line_by line code.Open text whole spelled s h o = mark_line line (record { kind = kind_view code.Open; text = text; whole = whole }) false true refl h o
line_by line code.Mark text whole spelled s h o = mark_line line (record { kind = kind_view code.Mark; text = text; whole = whole }) false false refl h o

-- what no word makes hard
pub hard_by_none : (w h t d s p e x l : Bool)
    → (w && h && t || (d && ((s && false) || false)) || (p && false) || ((e && false) || (x && false)) || (d && l)) ≡ ((w && h && t) || (d && l))
hard_by_none w h t d s p e x l =
    rw (and-false s, and-false d, and-false p, and-false e, and-false x, or-false (w && h && t), or-false (w && h && t), or-false (w && h && t)) refl

hard_by_word : (w d a p b e x : Bool) → (w && true && true || a || b || (e || x) || (d && false)) ≡ (w || (a || b || e || x))
hard_by_word true d a p b e x = refl
hard_by_word false true true p b e x = refl
hard_by_word false false true p b e x = refl
hard_by_word false true false p true e x = refl
hard_by_word false false false p true e x = refl
hard_by_word false true false p false e x = or-false (e || x)
hard_by_word false false false p false e x = or-false (e || x)

none_here : (w d l : Bool) → l ≡ false → ((w && true && false) || (d && l)) ≡ false
none_here true d l e = rw e (and-false d)
none_here false d l e = rw e (and-false d)

no_name : (w t d l : Bool) → l ≡ false → ((w && false && t) || (d && l)) ≡ false
no_name true t d l e = rw e (and-false d)
no_name false t d l e = rw e (and-false d)

lacks_name : (w d l : Bool) → l ≡ false → ((w && true && true) || (d && l)) ≡ w
lacks_name true d l e = refl
lacks_name false d l e = rw e (and-false d)

long_lines : (w d l long : Bool) → l ≡ long → ((w && true && true) || (d && l)) ≡ (w || (d && long))
long_lines true d l long e = refl
long_lines false d l long e = ap (λ (b : Bool). d && b) e

word_hard : (line : Line) (text : List Letter) (whole : Bool) (spelled : List ℕ) → bytes text ≡ spelled
    → is_hard_after line (record { kind = kind_view code.Word; text = text; whole = whole }) ≡ (line.wanted || is_hard_word line spelled)
word_hard line text whole spelled s =
    let t : List ℕ = bytes text in
    hard_by_word line.wanted line.directive (line.directive && ((line.single && is_among embed_words t) || is_among embed_query_words t)) line.pragma
    (line.pragma && is_among dependency_words t) (line.empty && is_among module_words t) (line.exported && is_among import_words t)
    ∙ ap (λ (u : List ℕ). line.wanted || is_hard_word line u) s

-- whether a piece makes the file hard behind a line, by its kind
pub hard_by : (line : Line) (kind : Kind) (text : List Letter) (whole : Bool) (spelled : List ℕ) →
    let p : Piece = record { kind = kind_view kind; text = text; whole = whole } in
    (is_word (kind_view kind) ≡ true → bytes text ≡ spelled) → is_long_raw p ≡ is_long kind → is_hard_after line p ≡ is_hard_kind line kind spelled
hard_by line code.Word text whole spelled s l = word_hard line text whole spelled (s refl)
hard_by line code.Comment text whole spelled s l =
    hard_by_none line.wanted true false line.directive line.single line.pragma line.empty line.exported false ∙ none_here line.wanted line.directive false refl
hard_by line code.Blank text whole spelled s l =
    hard_by_none line.wanted true false line.directive line.single line.pragma line.empty line.exported false ∙ none_here line.wanted line.directive false refl
hard_by line code.Header text whole spelled s l =
    hard_by_none line.wanted false true line.directive line.single line.pragma line.empty line.exported false ∙ no_name line.wanted true line.directive false refl
hard_by line (code.Raw long) text whole spelled s l =
    let p : Piece = record { kind = kind_view (code.Raw long); text = text; whole = whole } in
    hard_by_none line.wanted true true line.directive line.single line.pragma line.empty line.exported (is_long_raw p) ∙ long_lines line.wanted line.directive (is_long_raw p) long l
hard_by line code.LineEnd text whole spelled s l =
    hard_by_none line.wanted true true line.directive line.single line.pragma line.empty line.exported false ∙ lacks_name line.wanted line.directive false refl
hard_by line code.Literal text whole spelled s l =
    hard_by_none line.wanted true true line.directive line.single line.pragma line.empty line.exported false ∙ lacks_name line.wanted line.directive false refl
hard_by line code.Number text whole spelled s l =
    hard_by_none line.wanted true true line.directive line.single line.pragma line.empty line.exported false ∙ lacks_name line.wanted line.directive false refl
hard_by line code.Hash text whole spelled s l =
    hard_by_none line.wanted true true line.directive line.single line.pragma line.empty line.exported false ∙ lacks_name line.wanted line.directive false refl
hard_by line code.Open text whole spelled s l =
    hard_by_none line.wanted true true line.directive line.single line.pragma line.empty line.exported false ∙ lacks_name line.wanted line.directive false refl
hard_by line code.Mark text whole spelled s l =
    hard_by_none line.wanted true true line.directive line.single line.pragma line.empty line.exported false ∙ lacks_name line.wanted line.directive false refl

hard_both : (alone hard after kind : Bool) → alone ≡ hard → (hard ≡ false → after ≡ kind) → (alone || after) ≡ (hard || kind)
hard_both alone true after kind e f = rw e refl
hard_both alone false after kind e f = rw e (f refl)

one_name : (h : Bool) (x y : Name) → (h ≡ true → x ≡ y) → cond h (x ∷ []) [] ≡ cond h (y ∷ []) []
one_name true x y f = ap (λ (n : Name). n ∷ []) (f refl)
one_name false x y f = refl

-- what the code makes of a cut
pub steps : (text : List ℕ) (line : Line) (first next : ℕ) (cut : Cut) (step : Step)
    → front line.wanted first (letters_at text next) ≡ front_view text cut → Fits text first next cut
    → IsBarren text next step.barren
    → step.end ≡ cut.end
    → names_in step.name ≡ cond (is_header (kind_view cut.kind)) ((record { angled = first == 60; name = header_bytes (closing first) (letters_at text next) }) ∷ []) []
    → step.hard ≡ (cut.hard || is_hard_kind line cut.kind (word_bytes first (letters_at text next)))
    → step.raw ≡ is_raw (kind_view cut.kind)
    → step.line ≡ line_behind line cut.kind (word_bytes first (letters_at text next))
    → Steps text line first next step
steps text line first next cut step value fits known end names hard raw after =
    let l : Letter = letter_before text first next in
    let ls : List Letter = letters_at text next in
    let p : Piece = piece_view text first next cut in
    let spelled : List ℕ = word_bytes first ls in
    let same : piece (front line.wanted first ls) (l ∷ ls) ≡ p = ap (λ (f : Front). piece f (l ∷ ls)) value in
    record {
      on = subst (λ (place : ℕ). next ≤ place) (sym end) fits.on;
      within = subst (λ (place : ℕ). place ≤ length text) (sym end) fits.within;
      known = λ p above below. known p (omega (arith, end, fits.on)) below;
      rest = ap (λ (f : Front). f.rest) value ∙ ap (λ (place : ℕ). letters_at text place) (sym end);
      names = ap (λ (q : Piece). names_of q) same
          ∙ (one_name (is_header (kind_view cut.kind)) (name_in p) (record { angled = first == 60; name = header_bytes (closing first) ls }) fits.named ∙ sym names);
      hard = ap (λ (q : Piece). is_hard_alone q || is_hard_after line q) same
          ∙ (hard_both (is_hard_alone p) cut.hard (is_hard_after line p) (is_hard_kind line cut.kind spelled) fits.alone
          (λ open_end. hard_by line cut.kind p.text cut.whole spelled fits.word (fits.long open_end)) ∙ sym hard);
      raw = ap (λ (f : Front). is_raw f.kind) value ∙ sym raw;
      line_is = ap (λ (q : Piece). behind_piece line q) same ∙ (line_by line cut.kind p.text cut.whole spelled fits.word fits.hash fits.opens ∙ sym after);
    }
