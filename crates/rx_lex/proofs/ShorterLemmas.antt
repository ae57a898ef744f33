-- What is left behind a piece is shorter than what it was read from.
use Rattle.std.proofs.Common.{not, ℕ, zero, suc, ◌≤◌, List, [], ◌∷◌, length, drop, arith, Bool, true, false, cond, ◌==◌, ◌&&◌, ◌||◌, ◌++◌, Option, codes, Some, None, nat_le, length-drop}
use Rattle.rx_lex.specs.Letters.{Letter, begins, is_blank}
use Rattle.rx_lex.specs.Pieces.{behind_all, behind_text, behind_header, behind_number, begins_digit, behind_block, behind_line, is_name, is_digit, literal, raw, raw_prefix, raw_behind, unless_open, is_double_step, is_single_step, Kind, header_end, whole, front, plain_front, or_else, space_at, comment_at, raw_at, literal_at, number_at, word_at, mark_at, header_at, Front, Literal, Raw, LineEnd, Blank, Comment, Number, Word, Mark, is_delimiter, all_at_front}

abbrev pub IfSomeShort : Option (List Letter) → ℕ → Type 0
IfSomeShort None n = Unit {0}
IfSomeShort (Some rest) n = length rest ≤ n

choose_short : (b : Bool) (x y : List Letter) (n : ℕ) → length x ≤ n → length y ≤ n → length (cond b x y) ≤ n
choose_short true x y n h k = h
choose_short false x y n h k = k

choose_front : (b : Bool) (x y : Front) (n : ℕ) → length x.rest ≤ n → length y.rest ≤ n → length (cond b x y).rest ≤ n
choose_front true x y n h k = h
choose_front false x y n h k = k

pub behind_all_short : (test : ℕ → Bool) (ls : List Letter) → length (behind_all test ls) ≤ length ls
behind_all_short test [] = omega arith
behind_all_short test (l ∷ ls) =
    choose_short (test l.byte) (behind_all test ls) (l ∷ ls) (length (l ∷ ls)) (omega (arith, behind_all_short test ls)) (omega arith)

pub literal_short : (quote : ℕ) (escaped : Bool) (ls : List Letter) → length (literal quote escaped ls).rest ≤ length ls
literal_short quote escaped [] = omega arith
literal_short quote escaped (l ∷ ls) =
    choose_front (l.byte == 10) (record { kind = Literal; whole = false; rest = l ∷ ls })
    (cond (l.byte == quote && not escaped) (record { kind = Literal; whole = true; rest = ls }) (literal quote (l.byte == 92 && not escaped) ls))
    (length (l ∷ ls)) (omega arith)
    (choose_front (l.byte == quote && not escaped) (record { kind = Literal; whole = true; rest = ls }) (literal quote (l.byte == 92 && not escaped) ls)
    (length (l ∷ ls)) (omega arith) (omega (arith, literal_short quote (l.byte == 92 && not escaped) ls)))

choose_some : (b : Bool) (x y : Option (List Letter)) (n : ℕ) → IfSomeShort x n → IfSomeShort y n → IfSomeShort (cond b x y) n
choose_some true x y n h k = h
choose_some false x y n h k = k

some_more : (x : Option (List Letter)) (m n : ℕ) → m ≤ n → IfSomeShort x m → IfSomeShort x n
some_more None m n h k = tt
some_more (Some rest) m n h k = omega arith

pub behind_text_short : (text : List ℕ) (ls : List Letter) → IfSomeShort (behind_text text ls) (length ls)
behind_text_short text [] = tt
behind_text_short text (l ∷ ls) =
    choose_some (begins text (l ∷ ls)) (Some (drop (length text) (l ∷ ls))) (behind_text text ls) (length (l ∷ ls))
    (omega (arith, length-drop (length text) (l ∷ ls)))
    (some_more (behind_text text ls) (length ls) (length (l ∷ ls)) (omega arith) (behind_text_short text ls))

pub behind_header_short : (close : ℕ) (ls : List Letter) → IfSomeShort (behind_header close ls) (length ls)
behind_header_short close [] = tt
behind_header_short close (l ∷ ls) =
    choose_some (l.byte == 10) None (cond (l.byte == close) (Some ls) (behind_header close ls)) (length (l ∷ ls)) tt
    (choose_some (l.byte == close) (Some ls) (behind_header close ls) (length (l ∷ ls)) (omega arith)
    (some_more (behind_header close ls) (length ls) (length (l ∷ ls)) (omega arith) (behind_header_short close ls)))

pub behind_number_short : (ls : List Letter) → length (behind_number ls) ≤ length ls
behind_number_short [] = omega arith
behind_number_short (l ∷ []) = choose_short (is_single_step l.byte) [] (l ∷ []) 1 (omega arith) (omega arith)
behind_number_short (l ∷ m ∷ ls) =
    choose_short (is_double_step l.byte m.byte) (behind_number ls) (cond (is_single_step l.byte) (behind_number (m ∷ ls)) (l ∷ m ∷ ls))
    (length (l ∷ m ∷ ls)) (omega (arith, behind_number_short ls))
    (choose_short (is_single_step l.byte) (behind_number (m ∷ ls)) (l ∷ m ∷ ls)
    (length (l ∷ m ∷ ls)) (omega (arith, behind_number_short (m ∷ ls))) (omega arith))

open_short : (kind : Kind) (x : Option (List Letter)) (n : ℕ) → IfSomeShort x n → length (unless_open kind x).rest ≤ n
open_short kind None n h = omega arith
open_short kind (Some rest) n h = h

raw_short : (ls : List Letter) → length (raw ls).rest ≤ length ls
raw_short ls =
    let body : length (behind_all is_delimiter ls) ≤ length ls = behind_all_short is_delimiter ls in
    let close : List ℕ = (41 ∷ all_at_front is_delimiter ls) ++ (34 ∷ []) in
    choose_front (nat_le (length (all_at_front is_delimiter ls)) 16 && begins (codes "(") (behind_all is_delimiter ls))
    (unless_open Raw (behind_text close (behind_all is_delimiter ls)))
    (record { kind = Raw; whole = false; rest = (literal 34 false ls).rest })
    (length ls)
    (open_short Raw (behind_text close (behind_all is_delimiter ls)) (length ls)
    (some_more (behind_text close (behind_all is_delimiter ls)) (length (behind_all is_delimiter ls)) (length ls) body (behind_text_short close (behind_all is_delimiter ls))))
    (literal_short 34 false ls)

abbrev pub IfFrontShort : Option Front → ℕ → Type 0
IfFrontShort None n = Unit {0}
IfFrontShort (Some f) n = length f.rest ≤ n

choose_at : (b : Bool) (x y : Option Front) (n : ℕ) → IfFrontShort x n → IfFrontShort y n → IfFrontShort (cond b x y) n
choose_at true x y n h k = h
choose_at false x y n h k = k

or_else_short : (x : Option Front) (y : Front) (n : ℕ) → IfFrontShort x n → length y.rest ≤ n → length (or_else x y).rest ≤ n
or_else_short None y n h k = k
or_else_short (Some f) y n h k = h

space_short : (b : ℕ) (ls : List Letter) → IfFrontShort (space_at b ls) (length ls)
unfolding space_at
space_short b ls = choose_at (b == 10) (Some (whole LineEnd ls)) (cond (is_blank b) (Some (whole Blank (behind_all is_blank ls))) None) (length ls) (omega arith)
    (choose_at (is_blank b) (Some (whole Blank (behind_all is_blank ls))) None (length ls) (behind_all_short is_blank ls) tt)

comment_short : (b : ℕ) (ls : List Letter) → IfFrontShort (comment_at b ls) (length ls)
unfolding comment_at
comment_short b [] = tt
comment_short b (l ∷ ls) =
    let n : ℕ = length (l ∷ ls) in
    choose_at (b == 47 && l.byte == 42) (Some (unless_open Comment (behind_block ls))) (cond (b == 47 && l.byte == 47) (Some (whole Comment (behind_line ls))) None) n
    (open_short Comment (behind_block ls) n (some_more (behind_block ls) (length ls) n (omega arith) (behind_text_short (codes "*/") ls)))
    (choose_at (b == 47 && l.byte == 47) (Some (whole Comment (behind_line ls))) None n (omega (arith, behind_all_short (λ b. not (b == 10)) ls)) tt)

raw_behind_short : (n : ℕ) (ls : List Letter) → IfFrontShort (raw_behind n ls) (length ls)
raw_behind_short zero ls = tt
raw_behind_short (suc n) ls = omega (arith, raw_short (drop (suc n) ls), length-drop (suc n) ls)

raw_at_short : (b : ℕ) (ls : List Letter) → IfFrontShort (raw_at b ls) (length ls)
unfolding raw_at
raw_at_short b ls = raw_behind_short (raw_prefix b ls) ls

literal_at_short : (b : ℕ) (ls : List Letter) → IfFrontShort (literal_at b ls) (length ls)
unfolding literal_at
literal_at_short b ls = choose_at (b == 34 || b == 39) (Some (literal b false ls)) None (length ls) (literal_short b false ls) tt

number_at_short : (b : ℕ) (ls : List Letter) → IfFrontShort (number_at b ls) (length ls)
unfolding number_at
number_at_short b ls = choose_at (is_digit b || (b == 46 && begins_digit ls)) (Some (whole Number (behind_number ls))) None (length ls) (behind_number_short ls) tt

word_at_short : (b : ℕ) (ls : List Letter) → IfFrontShort (word_at b ls) (length ls)
unfolding word_at
word_at_short b ls = choose_at (is_name b) (Some (whole Word (behind_all is_name ls))) None (length ls) (behind_all_short is_name ls) tt

mark_short : (b : ℕ) (ls : List Letter) → length (mark_at b ls).rest ≤ length ls
unfolding mark_at
mark_short b ls =
    choose_front (b == 37 && begins (codes ":%:") ls) (whole Mark (drop 3 ls))
    (cond ((b == 37 && begins (codes ":") ls) || (b == 35 && begins (codes "#") ls)) (whole Mark (drop 1 ls)) (whole Mark ls))
    (length ls) (omega (arith, length-drop 3 ls))
    (choose_front ((b == 37 && begins (codes ":") ls) || (b == 35 && begins (codes "#") ls)) (whole Mark (drop 1 ls)) (whole Mark ls)
    (length ls) (omega (arith, length-drop 1 ls)) (omega arith))

header_end_short : (x : Option (List Letter)) (n : ℕ) → IfSomeShort x n → IfFrontShort (header_end x) n
header_end_short None n h = tt
header_end_short (Some rest) n h = h

header_at_short : (wanted : Bool) (b : ℕ) (ls : List Letter) → IfFrontShort (header_at wanted b ls) (length ls)
unfolding header_at
header_at_short wanted b ls =
    choose_at (wanted && b == 60) (header_end (behind_header 62 ls)) (cond (wanted && b == 34) (header_end (behind_header 34 ls)) None) (length ls)
    (header_end_short (behind_header 62 ls) (length ls) (behind_header_short 62 ls))
    (choose_at (wanted && b == 34) (header_end (behind_header 34 ls)) None (length ls)
    (header_end_short (behind_header 34 ls) (length ls) (behind_header_short 34 ls)) tt)

plain_short : (b : ℕ) (ls : List Letter) → length (plain_front b ls).rest ≤ length ls
unfolding plain_front
plain_short b ls =
    let n : ℕ = length ls in
    or_else_short (space_at b ls) _ n (space_short b ls)
    (or_else_short (comment_at b ls) _ n (comment_short b ls)
    (or_else_short (raw_at b ls) _ n (raw_at_short b ls)
    (or_else_short (literal_at b ls) _ n (literal_at_short b ls)
    (or_else_short (number_at b ls) _ n (number_at_short b ls)
    (or_else_short (word_at b ls) _ n (word_at_short b ls)
    (mark_short b ls))))))

pub front_short : (wanted : Bool) (b : ℕ) (ls : List Letter) → length (front wanted b ls).rest ≤ length ls
unfolding front
front_short wanted b ls = or_else_short (header_at wanted b ls) (plain_front b ls) (length ls) (header_at_short wanted b ls) (plain_short b ls)
