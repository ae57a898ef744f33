-- What a cut of the code keeps of its piece.
use Rattle.std.proofs.Common.{◌≡◌, ℕ, zero, suc, ◌+◌, ◌-◌, ◌<◌, ◌≤◌, List, [], ◌∷◌, length, take, drop, refl, ap, sym, ◌∙◌, arith, Bool, true, false, cond, not, ◌||◌, ◌&&◌, ◌==◌, Option, Some, None}
use Rattle.std.specs.Prelude.{codes}
use Rattle.std.proofs.lemmas.Bool.Decides.{nat_tests}
use Rattle.std.proofs.Math.Bool.{or-false}
use Rattle.std.proofs.lemmas.Bool.{false≢true, true≢false}
use Rattle.rx_lex.specs.Letters.{Letter, bytes, letters_at, letter_before, is_blank, is_split_at}
use Rattle.rx_lex.specs.Pieces.{Front, Kind as PieceKind, Literal, Raw, Header, is_digit, is_name, behind_all, behind_line, behind_header, literal, raw, raw_at, raw_behind, raw_prefix}
use Rattle.rx_lex.proofs.TextLemmas.{word_text}
use Rattle.rx_lex.specs.Line.{is_word, same, spells, hash_marks, open_marks}
use Rattle.rx_lex.specs.Directives.{is_hard_alone, is_long_raw, is_header, is_raw, name_in, Name, contains}
use Rattle.rx_lex.specs.Header.{closing, header_bytes}
use Rattle.rx_lex.specs.Words.{word_bytes}
use Rattle.rx_lex.specs.Literal.{line_front}
use Rattle.rx_lex.proofs.ShorterLemmas.{behind_all_short}
use Rattle.rx_lex.specs.Cut.{Fits, kind_view, is_hash, is_open, is_long, piece_view, IsRawStart, split_in}
use Rattle.rx_lex.specs.declared.cut.Cut.{Cut}
use Rattle.rx_lex.specs.declared.cut.Kind.{Kind}
use Rattle.rx_lex.specs.declared.cut.Kind.TheVariants as code

-- A piece that is whole and no raw literal makes nothing hard by itself.
alone_not : (k : PieceKind) (text : List Letter) → is_raw k ≡ false → is_hard_alone (record { kind = k; text = text; whole = true }) ≡ false
alone_not k text h = rw h refl

long_not : (k : PieceKind) (text : List Letter) (w : Bool) → is_raw k ≡ false → is_long_raw (record { kind = k; text = text; whole = w }) ≡ false
long_not k text w h = rw h refl

-- a byte that begins no `#`, `%:` or `(`
abbrev pub IsPlain : ℕ → Type 0
IsPlain b = (b == 35 || b == 37 || b == 40) ≡ false

no_either : (x y : Bool) → x ≡ false → y ≡ false → (cond x true false || (cond y true false || false)) ≡ false
no_either x y e f = rw (e, f) refl

plain_parts : (x y z : Bool) → (x || y || z) ≡ false → (x ≡ false) × (y ≡ false) × (z ≡ false)
plain_parts false false false h = (refl, refl, refl)
plain_parts true y z h = absurd (grind arith)
plain_parts false true z h = absurd (grind arith)
plain_parts false false true h = absurd (grind arith)

pub hash_not : (n : ℕ) (l : Letter) (ls : List Letter) (k : PieceKind) (w : Bool) → IsPlain l.byte
    → spells hash_marks (record { kind = k; text = take n (l ∷ ls); whole = w }) ≡ false
hash_not zero l ls k w h = refl
hash_not (suc n) l ls k w h =
    let parts = plain_parts (l.byte == 35) (l.byte == 37) (l.byte == 40) h in rw (parts.0, parts.1) refl

pub open_not : (n : ℕ) (l : Letter) (ls : List Letter) (k : PieceKind) (w : Bool) → IsPlain l.byte
    → spells open_marks (record { kind = k; text = take n (l ∷ ls); whole = w }) ≡ false
open_not zero l ls k w h = refl
open_not (suc n) l ls k w h =
    let parts = plain_parts (l.byte == 35) (l.byte == 37) (l.byte == 40) h in rw parts.2 refl

-- a piece that opens no directive and no parenthesis
fits_by : (text : List ℕ) (first next : ℕ) (cut : Cut) → IsPlain first → next ≤ cut.end → cut.end ≤ length text → is_hash cut.kind ≡ false → is_open cut.kind ≡ false
    → is_hard_alone (piece_view text first next cut) ≡ cut.hard
    → (cut.hard ≡ false → is_long_raw (piece_view text first next cut) ≡ is_long cut.kind)
    → (is_word (kind_view cut.kind) ≡ true → bytes (piece_view text first next cut).text ≡ word_bytes first (letters_at text next))
    → (is_header (kind_view cut.kind) ≡ true
    → name_in (piece_view text first next cut) ≡ (record { angled = first == 60; name = header_bytes (closing first) (letters_at text next) }))
    → Fits text first next cut
fits_by text first next cut plain on within hash opens alone long word named =
    let l : Letter = letter_before text first next in
    let ls : List Letter = letters_at text next in
    let n : ℕ = length (l ∷ ls) - length (letters_at text cut.end) in
    record {
      on = on;
      within = within;
      alone = alone;
      long = long;
      hash = hash_not n l ls (kind_view cut.kind) cut.whole plain ∙ sym hash;
      opens = open_not n l ls (kind_view cut.kind) cut.whole plain ∙ sym opens;
      word = word;
      named = named;
    }

-- a piece of no kind of its own
pub fits_plain : (text : List ℕ) (first next : ℕ) (kind : Kind) (end : ℕ) → IsPlain first → next ≤ end → end ≤ length text
    → is_raw (kind_view kind) ≡ false → is_header (kind_view kind) ≡ false → is_hash kind ≡ false → is_open kind ≡ false → is_long kind ≡ false
    → is_word (kind_view kind) ≡ false → Fits text first next (record { kind = kind; whole = true; hard = false; end = end })
fits_plain text first next kind end plain on within raw header hash opens long word =
    let cut : Cut = record { kind = kind; whole = true; hard = false; end = end } in
    let spelled : List Letter = (piece_view text first next cut).text in
    fits_by text first next cut plain on within hash opens
    (alone_not (kind_view kind) spelled raw)
    (λ h. long_not (kind_view kind) spelled true raw ∙ sym long)
    (λ h. absurd (false≢true (sym word ∙ h)))
    (λ h. absurd (false≢true (sym header ∙ h)))

pub blank_plain : (b : ℕ) → is_blank b ≡ true → IsPlain b
blank_plain b h = grind (arith, nat_tests)

pub name_plain : (b : ℕ) → is_name b ≡ true → IsPlain b
name_plain b h = grind (arith, nat_tests)

pub number_plain : (b : ℕ) (x : Bool) → (is_digit b || (b == 46 && x)) ≡ true → IsPlain b
number_plain b x h = grind (arith, nat_tests)

pub raw_plain : (b : ℕ) → IsRawStart b → IsPlain b
raw_plain b h = grind (arith, nat_tests)

raw_no_line : (b : ℕ) → IsRawStart b → (b == 10) ≡ false
raw_no_line b h = grind (arith, nat_tests)

pub fits_word : (text : List ℕ) (first next end : ℕ) → IsPlain first → next ≤ end → end ≤ length text
    → behind_all is_name (letters_at text next) ≡ letters_at text end
    → Fits text first next (record { kind = code.Word; whole = true; hard = false; end = end })
fits_word text first next end plain on within e =
    let l : Letter = letter_before text first next in
    let ls : List Letter = letters_at text next in
    fits_by text first next (record { kind = code.Word; whole = true; hard = false; end = end }) plain on within refl refl refl (λ no. refl)
    (λ yes. ap (λ (rest : List Letter). bytes (take (length (l ∷ ls) - length rest) (l ∷ ls))) (sym e) ∙ word_text l ls)
    (λ no. absurd (false≢true no))

-- a literal that isn't closed ends before the line's end
by_line : (e t : Bool) (l : Letter) (ls line : List Letter) (r : Front) → (r.whole ≡ false → r.rest ≡ line)
    → (cond e (record { kind = Literal; whole = false; rest = l ∷ ls }) (cond t (record { kind = Literal; whole = true; rest = ls }) r)).whole ≡ false
    → (cond e (record { kind = Literal; whole = false; rest = l ∷ ls }) (cond t (record { kind = Literal; whole = true; rest = ls }) r)).rest ≡ cond (not e) line (l ∷ ls)
by_line true t l ls line r f h = refl
by_line false true l ls line r f h = absurd (grind arith)
by_line false false l ls line r f h = f h

pub open_literal : (quote : ℕ) (escaped : Bool) (ls : List Letter) → (literal quote escaped ls).whole ≡ false → (literal quote escaped ls).rest ≡ behind_line ls
open_literal quote escaped [] h = refl
open_literal quote escaped (l ∷ ls) h =
    by_line (l.byte == 10) (l.byte == quote && not escaped) l ls (behind_line ls) (literal quote (l.byte == 92 && not escaped) ls)
    (open_literal quote (l.byte == 92 && not escaped) ls) h

taken_line : (e : Bool) (l : Letter) (ls line front : List Letter) → length line ≤ length ls → take (length ls - length line) ls ≡ front
    → take (length (l ∷ ls) - length (cond (not e) line (l ∷ ls))) (l ∷ ls) ≡ cond e [] (l ∷ front)
taken_line true l ls line front h t =
    let none : length (l ∷ ls) - length (l ∷ ls) ≡ 0 = omega arith in ap (λ (k : ℕ). take k (l ∷ ls)) none
taken_line false l ls line front h t =
    let n : length (l ∷ ls) - length line ≡ suc (length ls - length line) = omega arith in
    ap (λ (k : ℕ). take k (l ∷ ls)) n ∙ ap (λ (xs : List Letter). l ∷ xs) t

pub line_taken : (ls : List Letter) → take (length ls - length (behind_line ls)) ls ≡ line_front ls
line_taken [] = refl
line_taken (l ∷ ls) = taken_line (l.byte == 10) l ls (behind_line ls) (line_front ls) (behind_all_short (λ b. not (b == 10)) ls) (line_taken ls)

passes_line : (t x : Bool) → t ≡ false → (cond t true false || x) ≡ x
passes_line t x h = rw h refl

plain_test : (b : Bool) → cond b true false ≡ b
plain_test true = refl
plain_test false = refl

same_name : (a b : Bool) (x y : List ℕ) → a ≡ b → x ≡ y → let one : Name = record { angled = a; name = x } in let other : Name = record { angled = b; name = y } in one ≡ other
same_name a b x y e f = rw (e, f) refl

abbrev some_length : Option (List Letter) → ℕ
some_length None = 0
some_length (Some ls) = length ls

take_front : (j : ℕ) (ls : List Letter) → take j (take (suc j) ls) ≡ take j ls
take_front zero ls = refl
take_front (suc j) [] = refl
take_front (suc j) (l ∷ ls) = ap (λ (xs : List Letter). l ∷ xs) (take_front j ls)

length_front : (k : ℕ) (ls : List Letter) → k ≤ length ls → length (take k ls) ≡ k
length_front zero ls h = refl
length_front (suc k) [] h = absurd (omega arith)
length_front (suc k) (l ∷ ls) h = omega (arith, length_front k ls (omega arith))

-- how a piece is spelled that has k letters behind its first one
pub piece_text : (l : Letter) (ls rest : List Letter) (k : ℕ) → k + length rest ≡ length ls → take (length (l ∷ ls) - length rest) (l ∷ ls) ≡ l ∷ take k ls
piece_text l ls rest k e = let n : length (l ∷ ls) - length rest ≡ suc k = omega arith in ap (λ (m : ℕ). take m (l ∷ ls)) n

open_alone : (l : Letter) (ls rest : List Letter) → rest ≡ behind_line ls
    → is_hard_alone (record { kind = Literal; text = take (length (l ∷ ls) - length rest) (l ∷ ls); whole = false }) ≡ contains (codes "/*") (line_front ls)
open_alone l ls rest e =
    let k : ℕ = length ls - length (behind_line ls) in
    let short = behind_all_short (λ b. not (b == 10)) ls in
    let same : length rest ≡ length (behind_line ls) = ap (λ (xs : List Letter). length xs) e in
    let text = piece_text l ls rest k (omega (arith, short, same)) in
    ap (λ (t : List Letter). is_hard_alone (record { kind = Literal; text = t; whole = false })) text
    ∙ (or-false (contains (codes "/*") (take k ls)) ∙ ap (λ (t : List Letter). contains (codes "/*") t) (line_taken ls))

pub fits_open : (text : List ℕ) (first next : ℕ) (hard : Bool) (end : ℕ) → IsPlain first → next ≤ end → end ≤ length text
    → literal first false (letters_at text next) ≡ (record { kind = Literal; whole = false; rest = letters_at text end })
    → hard ≡ contains (codes "/*") (line_front (letters_at text next))
    → Fits text first next (record { kind = code.Literal; whole = false; hard = hard; end = end })
fits_open text first next hard end plain on within e h =
    let l : Letter = letter_before text first next in
    let ls : List Letter = letters_at text next in
    let rest : letters_at text end ≡ behind_line ls =
    sym (ap (λ (f : Front). f.rest) e) ∙ open_literal first false ls (ap (λ (f : Front). f.whole) e) in
    fits_by text first next (record { kind = code.Literal; whole = false; hard = hard; end = end }) plain on within refl refl
    (open_alone l ls (letters_at text end) rest ∙ sym h) (λ no. refl) (λ no. absurd (false≢true no)) (λ no. absurd (false≢true no))

-- a comment without end
pub fits_endless : (text : List ℕ) (first next end : ℕ) → IsPlain first → next ≤ end → end ≤ length text
    → Fits text first next (record { kind = code.Comment; whole = false; hard = true; end = end })
fits_endless text first next end plain on within =
    fits_by text first next (record { kind = code.Comment; whole = false; hard = true; end = end }) plain on within refl refl refl
    (λ no. refl) (λ no. absurd (false≢true no)) (λ no. absurd (false≢true no))

-- a raw literal
pub fits_raw : (text : List ℕ) (first next : ℕ) (whole hard long : Bool) (end : ℕ) → IsPlain first → next ≤ end → end ≤ length text
    → is_hard_alone (piece_view text first next (record { kind = code.Raw long; whole = whole; hard = hard; end = end })) ≡ hard
    → (hard ≡ false → contains (10 ∷ []) (piece_view text first next (record { kind = code.Raw long; whole = whole; hard = hard; end = end })).text ≡ long)
    → Fits text first next (record { kind = code.Raw long; whole = whole; hard = hard; end = end })
fits_raw text first next whole hard long end plain on within alone lines =
    fits_by text first next (record { kind = code.Raw long; whole = whole; hard = hard; end = end }) plain on within refl refl alone lines
    (λ no. absurd (false≢true no)) (λ no. absurd (false≢true no))

pub raw_bad : (text : List ℕ) (first next end : ℕ) → IsRawStart first → next ≤ end → end ≤ length text
    → Fits text first next (record { kind = code.Raw false; whole = false; hard = true; end = end })
raw_bad text first next end start on within =
    fits_raw text first next false true false end (raw_plain first start) on within refl (λ no. absurd (true≢false no))

front_split : (l : Letter) (ls : List Letter) (j : ℕ) → suc j ≤ length ls
    → split_in (take (length (l ∷ take (suc j) ls) - 1) (l ∷ take (suc j) ls)) ≡ (l.split || split_in (take j ls))
front_split l ls j h =
    let size : length (take (suc j) ls) ≡ suc j = length_front (suc j) ls h in
    let n : length (l ∷ take (suc j) ls) - 1 ≡ suc j = omega (arith, size) in
    ap (λ (k : ℕ). split_in (take k (l ∷ take (suc j) ls))) n
    ∙ ap (λ (xs : List Letter). l.split || split_in xs) (take_front j ls)

-- what the code asks of a whole raw literal that has k letters behind its first one
pub raw_alone : (l : Letter) (ls rest : List Letter) (k : ℕ) → 0 < k → k + length rest ≡ length ls
    → is_hard_alone (record { kind = Raw; text = take (length (l ∷ ls) - length rest) (l ∷ ls); whole = true }) ≡ (l.split || split_in (take (k - 1) ls))
raw_alone l ls rest k more e =
    let j : ℕ = k - 1 in
    let size : suc j ≡ k = omega arith in
    let count : suc j + length rest ≡ length ls = omega arith in
    ap (λ (t : List Letter). split_in (take (length t - 1) t)) (piece_text l ls rest (suc j) count) ∙ front_split l ls j (omega arith)

pub raw_lines : (l : Letter) (ls rest : List Letter) (k : ℕ) → (l.byte == 10) ≡ false → k + length rest ≡ length ls
    → contains (10 ∷ []) (take (length (l ∷ ls) - length rest) (l ∷ ls)) ≡ contains (10 ∷ []) (take k ls)
raw_lines l ls rest k h e = ap (λ (t : List Letter). contains (10 ∷ []) t) (piece_text l ls rest k e) ∙ passes_line (l.byte == 10) (contains (10 ∷ []) (take k ls)) h

pub raw_split : (text : List ℕ) (first next k end : ℕ) → IsRawStart first → next ≤ end → end ≤ length text → 0 < k
    → k + length (letters_at text end) ≡ length (letters_at text next)
    → (is_split_at text next || split_in (take (k - 1) (letters_at text next))) ≡ true
    → Fits text first next (record { kind = code.Raw false; whole = true; hard = true; end = end })
raw_split text first next k end start on within more count split =
    fits_raw text first next true true false end (raw_plain first start) on within
    (raw_alone (letter_before text first next) (letters_at text next) (letters_at text end) k more count ∙ split)
    (λ no. absurd (true≢false no))

pub raw_whole : (text : List ℕ) (first next k end : ℕ) (long : Bool) → IsRawStart first → next ≤ end → end ≤ length text → 0 < k
    → k + length (letters_at text end) ≡ length (letters_at text next)
    → (is_split_at text next || split_in (take (k - 1) (letters_at text next))) ≡ false
    → long ≡ contains (10 ∷ []) (take k (letters_at text next))
    → Fits text first next (record { kind = code.Raw long; whole = true; hard = false; end = end })
raw_whole text first next k end long start on within more count split lines =
    fits_raw text first next true false long end (raw_plain first start) on within
    (raw_alone (letter_before text first next) (letters_at text next) (letters_at text end) k more count ∙ split)
    (λ no. raw_lines (letter_before text first next) (letters_at text next) (letters_at text end) k (raw_no_line first start) count ∙ sym lines)

-- A header name has its name between its first letter and its last.
pub record HeaderCut (close : ℕ) (ls rest : List Letter) : Type 0 where
  pub size : ℕ
  pub count : suc size + length rest ≡ length ls
  pub name : take size (bytes (take (suc size) ls)) ≡ header_bytes close ls

header_step : (e t : Bool) (close : ℕ) (l : Letter) (ls rest : List Letter) (found : Option (List Letter)) → (l.byte == close) ≡ t
    → (found ≡ Some rest → HeaderCut close ls rest)
    → cond e None (cond t (Some ls) found) ≡ Some rest → HeaderCut close (l ∷ ls) rest
header_step true t close l ls rest found same f h = absurd (grind arith)
header_step false true close l ls rest found same f h =
    let here : length ls ≡ length rest = ap (λ (x : Option (List Letter)). some_length x) h in
    record { size = 0; count = omega arith; name = rw same refl }
header_step false false close l ls rest found same f h =
    let more : HeaderCut close ls rest = f h in
    record { size = suc more.size; count = omega (arith, more.count); name = rw same (ap (λ (xs : List ℕ). l.byte ∷ xs) more.name) }

pub header_cut : (close : ℕ) (ls rest : List Letter) → behind_header close ls ≡ Some rest → HeaderCut close ls rest
header_cut close [] rest h = absurd (grind arith)
header_cut close (l ∷ ls) rest h =
    header_step (l.byte == 10) (l.byte == close) close l ls rest (behind_header close ls) refl (header_cut close ls rest) h

name_is : (l : Letter) (ls rest : List Letter) (close : ℕ) (w : Bool) → HeaderCut close ls rest
    → name_in (record { kind = Header; text = take (length (l ∷ ls) - length rest) (l ∷ ls); whole = w })
    ≡ (record { angled = l.byte == 60; name = header_bytes close ls })
name_is l ls rest close w cut =
    let text = piece_text l ls rest (suc cut.size) cut.count in
    let size : length (take (suc cut.size) ls) ≡ suc cut.size = length_front (suc cut.size) ls (omega (arith, cut.count)) in
    let n : length (l ∷ take (suc cut.size) ls) - 2 ≡ cut.size = omega (arith, size) in
    ap (λ (t : List Letter). name_in (record { kind = Header; text = t; whole = w })) text
    ∙ same_name (cond (l.byte == 60) true false) (l.byte == 60)
    (take (length (l ∷ take (suc cut.size) ls) - 2) (bytes (take (suc cut.size) ls))) (header_bytes close ls)
    (plain_test (l.byte == 60)) (ap (λ (k : ℕ). take k (bytes (take (suc cut.size) ls))) n ∙ cut.name)

pub fits_header : (text : List ℕ) (first next end : ℕ) → IsPlain first → next ≤ end → end ≤ length text
    → behind_header (closing first) (letters_at text next) ≡ Some (letters_at text end)
    → Fits text first next (record { kind = code.Header; whole = true; hard = false; end = end })
fits_header text first next end plain on within e =
    let ls : List Letter = letters_at text next in
    let rest : List Letter = letters_at text end in
    fits_by text first next (record { kind = code.Header; whole = true; hard = false; end = end }) plain on within refl refl refl (λ no. refl)
    (λ no. absurd (false≢true no))
    (λ yes. name_is (letter_before text first next) ls rest (closing first) true (header_cut (closing first) ls rest e))

pub raw_none : (first : ℕ) (ls : List Letter) → raw_prefix first ls ≡ 0 → raw_at first ls ≡ None
unfolding raw_at
raw_none first ls h = ap (λ (n : ℕ). raw_behind n ls) h

raw_more : (n : ℕ) (ls : List Letter) → 0 < n → raw_behind n ls ≡ Some (raw (drop n ls))
raw_more zero ls h = absurd (omega arith)
raw_more (suc n) ls h = refl

pub raw_some : (first : ℕ) (ls behind : List Letter) (n : ℕ) → raw_prefix first ls ≡ n → 0 < n → behind ≡ drop n ls → raw_at first ls ≡ Some (raw behind)
unfolding raw_at
raw_some first ls behind n h more e =
    ap (λ (k : ℕ). raw_behind k ls) h ∙ (raw_more n ls more ∙ ap (λ (xs : List Letter). Some (raw xs)) (sym e))
