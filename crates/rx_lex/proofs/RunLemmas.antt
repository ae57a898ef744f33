-- A dull run on lines that are no directives changes nothing.
use Rattle.std.proofs.Common.{inl, inr, ◌⊎◌, not, ◌≡◌, ℕ, zero, suc, ◌-◌, ◌<◌, List, [], ◌∷◌, ◌++◌, length, refl, ap, sym, subst, ◌∙◌, arith, Bool, true, false, cond, ◌||◌, ◌&&◌, ◌==◌, take, drop}
use Rattle.std.specs.Prelude.{codes, flat_map, reverse}
use Rattle.std.proofs.lemmas.Bool.Decides.{nat_tests}
use Rattle.std.proofs.lemmas.Bool.{or_from, or_parts}
use Rattle.std.proofs.Math.Bool.{and-false}
use Rattle.rx_lex.specs.Letters.{Letter, begins, bytes, letters_at}
use Rattle.rx_lex.specs.Pieces.{Piece, Front, Kind, Comment, Literal, Raw, Header, Number, Word, Blank, LineEnd, Mark, front, header_at, plain_front, space_at, piece}
use Rattle.rx_lex.specs.Line.{any, begins_by_open, dependency_words, embed_query_words, embed_words, hash_marks, import_words, is_any_word, is_directive, is_empty, is_exported, is_including, is_named, is_single, is_token, is_word, module_words, pragma_words, same, spells, wants_header}
use Rattle.rx_lex.specs.Directives.{Name, Found as Reading, Placed, behind, contains, is_hard_alone, is_hard_behind, is_header, is_line_end, is_literal, is_long_raw, is_raw, names_of, opens_module}
use Rattle.rx_lex.specs.Quiet.{IsDull, Run, Skips, is_dull}
use Rattle.rx_lex.specs.Step.{line_of}
use Rattle.rx_lex.specs.declared.line.Line.{Line}
use Rattle.rx_lex.specs.declared.quiet.Place.{Place}
use Rattle.rx_lex.proofs.PlacedLemmas.{pieces_from, pieces_step}
use Rattle.rx_lex.proofs.WalkLemmas.{Goes, hard_at, names_at, raw_at, same_reading}
use Rattle.rx_lex.proofs.DullLemmas.{IsDullKind, IsStop, DullFront, dull_no_hash, dull_no_percent, front_dull}
use Rattle.rx_lex.proofs.TextLemmas.{by_no_head}

abbrev pub given_by : List Placed → Reading
given_by pieces = record { list = flat_map names_at pieces; hard = any hard_at pieces; raw = any raw_at pieces }

unnamed : (names : List (List ℕ)) (line : List Piece) → is_directive line ≡ false → is_named names line ≡ false
unnamed names [] h = refl
unnamed names (a ∷ []) h = refl
unnamed names (a ∷ b ∷ rest) h = rw h refl

unincluding : (line : List Piece) → is_directive line ≡ false → is_including line ≡ false
unincluding [] h = refl
unincluding (a ∷ []) h = refl
unincluding (a ∷ b ∷ []) h = rw h refl
unincluding (a ∷ b ∷ c ∷ rest) h = refl

wants_by : (i d o : Bool) → i ≡ false → d ≡ false → (i || (d && o)) ≡ false
wants_by i d o e f = rw (e, f) refl

unwanted : (line : List Piece) → is_directive line ≡ false → wants_header line ≡ false
unwanted line h = wants_by (is_including line) (is_directive line) (begins_by_open (reverse line)) (unincluding line h) h

behind_by_none : (w h t d e n x m l : Bool) → w ≡ false → d ≡ false → n ≡ false → m ≡ false
    → (w && h && t || (d && e) || (n && x) || m || (d && l)) ≡ false
behind_by_none w h t d e n x m l a b c f = rw (a, b, c, f) refl

alone_by_none : (w l r s : Bool) → w ≡ true → r ≡ false → ((not w && l) || (r && s)) ≡ false
alone_by_none w l r s e f = rw (e, f) refl

not_raw : (k : Kind) → IsDullKind k → is_raw k ≡ false
not_raw Comment h = absurd h
not_raw Literal h = absurd h
not_raw Raw h = absurd h
not_raw Header h = absurd h
not_raw Number h = refl
not_raw Word h = refl
not_raw Blank h = refl
not_raw LineEnd h = refl
not_raw Mark h = refl

not_header : (k : Kind) → IsDullKind k → is_header k ≡ false
not_header Comment h = absurd h
not_header Literal h = absurd h
not_header Raw h = absurd h
not_header Header h = absurd h
not_header Number h = refl
not_header Word h = refl
not_header Blank h = refl
not_header LineEnd h = refl
not_header Mark h = refl

pub hard_not : (line : List Piece) (p : Piece) → is_directive line ≡ false → opens_module line p ≡ false → p.whole ≡ true → IsDullKind p.kind
    → (is_hard_alone p || is_hard_behind line p) ≡ false
hard_not line p d m w k =
    let alone : is_hard_alone p ≡ false =
    alone_by_none p.whole (not (is_literal p.kind) || contains (codes "/*") (drop 1 p.text)) (is_raw p.kind)
    (any (λ l. l.split) (take (length p.text - 1) p.text)) w (not_raw p.kind k) in
    let after : is_hard_behind line p ≡ false =
    behind_by_none (wants_header line) (not (is_header p.kind)) (is_token p.kind || is_line_end p.kind) (is_directive line)
    ((is_single line && is_any_word embed_words p) || is_any_word embed_query_words p) (is_named pragma_words line) (is_any_word dependency_words p)
    (opens_module line p) (is_long_raw p) (unwanted line d) d (unnamed pragma_words line d) m in
    or_from (is_hard_alone p) (is_hard_behind line p) alone after

or_first : (a b : Bool) → a ≡ false → (a || b) ≡ b
or_first a b e = rw e refl

names_none : (p : Piece) → is_header p.kind ≡ false → names_of p ≡ []
names_none p h = rw h refl

pub given_skip : (at : Placed) (rest : List Placed) → is_header at.piece.kind ≡ false → hard_at at ≡ false → is_raw at.piece.kind ≡ false
    → given_by (at ∷ rest) ≡ given_by rest
given_skip at rest h k r =
    same_reading (names_at at ++ flat_map names_at rest) (flat_map names_at rest) (hard_at at || any hard_at rest) (any hard_at rest)
    (raw_at at || any raw_at rest) (any raw_at rest)
    (ap (λ (xs : List Name). xs ++ flat_map names_at rest) (names_none at.piece h))
    (or_first (hard_at at) (any hard_at rest) k)
    (or_first (raw_at at) (any raw_at rest) r)

-- the piece opens no directive
opens_not : (n : ℕ) (l : Letter) (ls : List Letter) (k : Kind) (w : Bool) → is_dull l.byte ≡ true
    → spells hash_marks (record { kind = k; text = take n (l ∷ ls); whole = w }) ≡ false
opens_not zero l ls k w h = refl
opens_not (suc n) l ls k w h = rw (dull_no_hash l.byte h, dull_no_percent l.byte h) refl

directive_more : (line : List Piece) (p : Piece) → is_directive line ≡ false → spells hash_marks p ≡ false → is_directive (line ++ (p ∷ [])) ≡ false
directive_more [] p h o = o
directive_more (a ∷ line) p h o = h

behind_by : (e t : Bool) (line more : List Piece) → is_directive line ≡ false → is_directive more ≡ false → is_directive (cond e [] (cond t more line)) ≡ false
behind_by true t line more h k = refl
behind_by false true line more h k = k
behind_by false false line more h k = h

pub behind_directive : (line : List Piece) (p : Piece) → is_directive line ≡ false → spells hash_marks p ≡ false → is_directive (behind line p) ≡ false
behind_directive line p h o = behind_by (is_line_end p.kind) (is_token p.kind) line (line ++ (p ∷ [])) h (directive_more line p h o)

-- a text without stops isn't found across a run's end
abbrev pub is_stop : ℕ → Bool
is_stop b = b == 10

abbrev pub NoStops : List ℕ → Type 0
NoStops [] = Unit {0}
NoStops (b ∷ bs) = (is_stop b ≡ false) × NoStops bs

true_not : true ≡ false → ⊥
true_not h = cc

differs : (b c : ℕ) → is_stop b ≡ true → is_stop c ≡ false → (b == c) ≡ false
differs b c h k = grind (arith, nat_tests)

choose_equal : (b x y : Bool) → x ≡ y → cond b x false ≡ cond b y false
choose_equal b x y e = rw e refl

begins_append : (text : List ℕ) (run rest : List Letter) → NoStops text → IsStop rest → begins text (run ++ rest) ≡ begins text run
begins_append [] run rest n s = refl
begins_append (b ∷ bs) [] [] n s = refl
begins_append (b ∷ bs) [] (l ∷ rest) n s = rw (differs l.byte b s n.0) refl
begins_append (b ∷ bs) (l ∷ run) rest n s = choose_equal (l.byte == b) (begins bs (run ++ rest)) (begins bs run) (begins_append bs run rest n.1 s)

-- letters that are spelled so begin so
same_all : (n : ℕ) (ls : List Letter) (text : List ℕ) → begins text ls ≡ false → same (bytes (take n ls)) text ≡ false
same_all n ls [] h = absurd (true_not h)
same_all zero ls (b ∷ bs) h = refl
same_all (suc n) [] (b ∷ bs) h = refl
same_all (suc n) (l ∷ ls) (b ∷ bs) h = by_no_head true (l.byte == b) (begins bs ls) (same (bytes (take n ls)) bs) (same_all n ls bs) h

word_by : (k x y : Bool) → x ≡ false → y ≡ false → (k && (x || (y || false))) ≡ false
word_by k x y e f = rw (e, f) (and-false k)

one_word_by : (k x : Bool) → x ≡ false → (k && (x || false)) ≡ false
one_word_by k x e = rw e (and-false k)

module_parts : (e m x i : Bool) → m ≡ false → i ≡ false → ((e && m) || (x && i)) ≡ false
module_parts e m x i a b = rw (a, b, and-false e, and-false x) refl

-- no piece at the front of a dull run is the word import or module
module_by : (line : List Piece) (p : Piece) → same (bytes p.text) (codes "import") ≡ false → same (bytes p.text) (codes "module") ≡ false → opens_module line p ≡ false
module_by line p e f =
    module_parts (is_empty line) (is_any_word module_words p) (is_exported line) (is_any_word import_words p)
    (word_by (is_word p.kind) (same (bytes p.text) (codes "import")) (same (bytes p.text) (codes "module")) e f)
    (one_word_by (is_word p.kind) (same (bytes p.text) (codes "import")) e)

text_not : (n : ℕ) (l : Letter) (run rest : List Letter) (text : List ℕ) → NoStops text → IsStop rest → begins text (l ∷ run) ≡ false → same (bytes (take n (l ∷ (run ++ rest)))) text ≡ false
text_not n l run rest text k s h = same_all n ((l ∷ run) ++ rest) text (begins_append text (l ∷ run) rest k s ∙ h)

module_not : (line : List Piece) (l : Letter) (run rest : List Letter) (n : ℕ) (k : Kind) (w : Bool) → IsDull (l ∷ run) → IsStop rest
    → opens_module line (record { kind = k; text = take n (l ∷ (run ++ rest)); whole = w }) ≡ false
module_not line l run rest n k w d s =
    let none = or_parts (begins (codes "import") (l ∷ run)) (begins (codes "module") (l ∷ run)) d.2 in
    module_by line (record { kind = k; text = take n (l ∷ (run ++ rest)); whole = w })
    (text_not n l run rest (codes "import") (refl, (refl, (refl, (refl, (refl, (refl, tt)))))) s none.0)
    (text_not n l run rest (codes "module") (refl, (refl, (refl, (refl, (refl, (refl, tt)))))) s none.1)

-- where a run ends no line is a directive either, and what the rest gives is all
pub record Passed (line : List Piece) (run rest : List Letter) : Type 0 where
  pub line2 : List Piece
  pub plain : is_directive line2 ≡ false
  pub same : given_by (pieces_from line (run ++ rest)) ≡ given_by (pieces_from line2 rest)

pub dull_run : (n : ℕ) (line : List Piece) (run rest : List Letter) → length run < n → is_directive line ≡ false → IsDull run → IsStop rest → Passed line run rest
dull_run zero line run rest h d u s = absurd (omega arith)
dull_run (suc n) line [] rest h d u s = record { line2 = line; plain = d; same = refl }
dull_run (suc n) line (l ∷ run) rest h d u s =
    let ls : List Letter = run ++ rest in
    let f : Front = front false l.byte ls in
    let p : Piece = piece f (l ∷ ls) in
    let dull : DullFront f run rest = front_dull l.byte run rest u.0 u.1 s in
    let at : Placed = record { before = line; piece = p } in
    let wanted = unwanted line d in
    let step : pieces_from line (l ∷ ls) ≡ at ∷ pieces_from (behind line p) f.rest =
    subst (λ (w : Bool). pieces_from line (l ∷ ls) ≡
    (record { before = line; piece = piece (front w l.byte ls) (l ∷ ls) })
    ∷ pieces_from (behind line (piece (front w l.byte ls) (l ∷ ls))) (front w l.byte ls).rest) wanted (pieces_step line l ls) in
    let plain : is_directive (behind line p) ≡ false = behind_directive line p d (opens_not (length (l ∷ ls) - length f.rest) l ls f.kind f.whole u.0) in
    let more : Passed (behind line p) dull.left rest = dull_run n (behind line p) dull.left rest (omega (arith, dull.short)) plain dull.dull s in
    record {
      line2 = more.line2;
      plain = more.plain;
      same = ap (λ (xs : List Placed). given_by xs) step
          ∙ (given_skip at (pieces_from (behind line p) f.rest) (not_header f.kind dull.kind)
          (hard_not line p d (module_not line l run rest (length (l ∷ ls) - length f.rest) f.kind f.whole u s) dull.whole_is dull.kind) (not_raw f.kind dull.kind)
          ∙ (ap (λ (xs : List Letter). given_by (pieces_from (behind line p) xs)) dull.is
          ∙ more.same));
    }

no_module : (e x : Bool) → ((e && false) || (x && false)) ≡ false
no_module e x = rw (and-false e, and-false x) refl

is_line : (b : ℕ) → b ≡ 10 → (b == 10) ≡ true
is_line b h = grind (arith, nat_tests)

-- a LF, whatever stands before it on its line
line_front : (ls : List Letter) → let line : Front = record { kind = LineEnd; whole = true; rest = ls } in plain_front 10 ls ≡ line
unfolding plain_front space_at
line_front ls = refl

front_line : (ls : List Letter) → let line : Front = record { kind = LineEnd; whole = true; rest = ls } in front false 10 ls ≡ line
unfolding front header_at
front_line ls = line_front ls

pub given_line : (line : List Piece) (l : Letter) (ls : List Letter) → l.byte ≡ 10 → is_directive line ≡ false → given_by (pieces_from line (l ∷ ls)) ≡ given_by (pieces_from [] ls)
given_line line l ls h d =
    let end : Front = record { kind = LineEnd; whole = true; rest = ls } in
    let p : Piece = piece end (l ∷ ls) in
    let at : Placed = record { before = line; piece = p } in
    let e : front (wants_header line) l.byte ls ≡ end = ap (λ (w : Bool). front w l.byte ls) (unwanted line d) ∙ (ap (λ (b : ℕ). front false b ls) h ∙ front_line ls) in
    let step : pieces_from line (l ∷ ls) ≡ at ∷ pieces_from [] ls =
    pieces_step line l ls ∙ ap (λ (f : Front). (record { before = line; piece = piece f (l ∷ ls) }) ∷ pieces_from (behind line (piece f (l ∷ ls))) f.rest) e in
    ap (λ (xs : List Placed). given_by xs) step
    ∙ given_skip at (pieces_from [] ls) refl (hard_not line p d (no_module (is_empty line) (is_exported line)) refl tt) refl

pub given_run : (line : List Piece) (run rest : List Letter) (l : Letter) → is_directive line ≡ false → IsDull run → l.byte ≡ 10
    → given_by (pieces_from line (run ++ (l ∷ rest))) ≡ given_by (pieces_from [] rest)
given_run line run rest l d u h =
    let passed : Passed line run (l ∷ rest) = dull_run (suc (length run)) line run (l ∷ rest) (omega arith) d u (is_line l.byte h) in
    passed.same ∙ given_line passed.line2 l rest h passed.plain

goes_either : (text : List ℕ) (all : List Placed) (anywhere : Bool) (line : Line) (at : ℕ) (list : List Name) (hard raw : Bool) (place : Place)
    → Goes text all anywhere line at list hard raw
    → ((place.line ≡ line) × (place.at ≡ at)) ⊎ ((line.directive ≡ false) × (place.line ≡ line_of []) × Run text at place.at)
    → Goes text all anywhere place.line place.at list hard raw
goes_either text all anywhere line at list hard raw place g (inl same) =
    subst (λ (x : Line). Goes text all anywhere x place.at list hard raw) (sym same.0)
    (subst (λ (p : ℕ). Goes text all anywhere line p list hard raw) (sym same.1) g)
goes_either text all anywhere line at list hard raw place g (inr passed) =
    let run : Run text at place.at = passed.2 in
    let plain : is_directive g.before ≡ false = ap (λ (x : Line). x.directive) g.stands ∙ passed.0 in
    let same : given_by (pieces_from g.before (letters_at text at)) ≡ given_by (pieces_from [] (letters_at text place.at)) =
    ap (λ (ls : List Letter). given_by (pieces_from g.before ls)) run.is
    ∙ given_run g.before run.run (letters_at text place.at) run.last plain run.dull run.line_end in
    record {
      before = [];
      stands = sym passed.1;
      list_is = ap (λ (r : Reading). list ++ r.list) (sym same) ∙ g.list_is;
      hard_is = ap (λ (r : Reading). hard || r.hard) (sym same) ∙ g.hard_is;
      raw_is = ap (λ (r : Reading). raw || r.raw) (sym same) ∙ g.raw_is;
    }

-- the walk goes on behind a run
pub goes_skips : (text : List ℕ) (all : List Placed) (anywhere : Bool) (line : Line) (at : ℕ) (list : List Name) (hard raw : Bool) (place : Place)
    → Goes text all anywhere line at list hard raw → Skips text line at place → Goes text all anywhere place.line place.at list hard raw
goes_skips text all anywhere line at list hard raw place g s = goes_either text all anywhere line at list hard raw place g s.skips
