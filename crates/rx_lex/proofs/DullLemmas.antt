-- Runs of bytes that matter to no phase.
use Rattle.std.proofs.Common.{◌≡◌, ℕ, ◌≤◌, List, [], ◌∷◌, ◌++◌, length, refl, ap, sym, subst, ◌∙◌, arith, Bool, true, false, cond, ◌||◌, ◌&&◌, ◌==◌, Option, Some, None, drop}
use Rattle.std.specs.Prelude.{codes}
use Rattle.std.proofs.lemmas.Bool.Decides.{nat_tests}
use Rattle.std.proofs.lemmas.Bool.{or_from}
use Rattle.rx_lex.specs.Letters.{Letter, begins, is_blank}
use Rattle.rx_lex.specs.Quiet.{IsDull, is_dull}
use Rattle.rx_lex.proofs.ShorterLemmas.{behind_all_short, behind_number_short}
use Rattle.rx_lex.specs.Pieces.{behind_all, behind_number, begins_digit, raw_at, raw_behind, space_at, comment_at, literal_at, number_at, word_at, mark_at, header_at, front, plain_front, or_else, whole, is_name, is_digit, is_exponent, is_sign, is_double_step, is_single_step, Front, Kind, Number, Word, Blank, LineEnd, Mark}

-- what follows a run doesn't go on with what passes the test
abbrev pub Stops : (ℕ → Bool) → List Letter → Type 0
Stops test [] = Unit {0}
Stops test (l ∷ ls) = test l.byte ≡ false

choose_append : (b : Bool) (x y rest : List Letter) → cond b x y ++ rest ≡ cond b (x ++ rest) (y ++ rest)
choose_append true x y rest = refl
choose_append false x y rest = refl

choose_same : (b : Bool) (x x' y y' : List Letter) → x ≡ x' → y ≡ y' → cond b x y ≡ cond b x' y'
choose_same b x x' y y' e f = rw (e, f) refl

pub all_append : (test : ℕ → Bool) (run rest : List Letter) → Stops test rest → behind_all test (run ++ rest) ≡ behind_all test run ++ rest
all_append test [] [] h = refl
all_append test [] (l ∷ rest) h = rw h refl
all_append test (l ∷ run) rest h =
    choose_same (test l.byte) (behind_all test (run ++ rest)) (behind_all test run ++ rest) (l ∷ (run ++ rest)) ((l ∷ run) ++ rest) (all_append test run rest h) refl
    ∙ sym (choose_append (test l.byte) (behind_all test run) (l ∷ run) rest)

-- a byte that goes on with no number
abbrev pub may_continue : ℕ → Bool
may_continue b = is_name b || b == 46 || b == 43 || b == 45 || b == 39

apart : (n d p m q : Bool) → (n || d || p || m || q) ≡ false → (n ≡ false) × (d ≡ false) × ((p || m) ≡ false) × (q ≡ false)
apart false false false false false h = (refl, refl, refl, refl)
apart true d p m q h = absurd (grind arith)
apart false true p m q h = absurd (grind arith)
apart false false true m q h = absurd (grind arith)
apart false false false true q h = absurd (grind arith)
apart false false false false true h = absurd (grind arith)

dull_quote : (b : ℕ) → is_dull b ≡ true → (b == 39) ≡ false
dull_quote b h = grind (arith, nat_tests)

no_exponent : (b : ℕ) → is_name b ≡ false → is_exponent b ≡ false
no_exponent b h = grind (arith, nat_tests)

not_both : (q n e s : Bool) → q ≡ false → s ≡ false → ((q && n) || (e && s)) ≡ false
not_both q n false s a b = rw a refl
not_both q n true s a b = rw (a, b) refl

not_either : (q n e s : Bool) → q ≡ false → e ≡ false → ((q && n) || (e && s)) ≡ false
not_either q n e s a b = rw (a, b) refl

number_stops : (l : Letter) (rest : List Letter) → may_continue l.byte ≡ false → behind_number (l ∷ rest) ≡ l ∷ rest
number_stops l [] h =
    let a = apart (is_name l.byte) (l.byte == 46) (l.byte == 43) (l.byte == 45) (l.byte == 39) h in
    rw (or_from (is_name l.byte) (l.byte == 46) a.0 a.1) refl
number_stops l (m ∷ rest) h =
    let a = apart (is_name l.byte) (l.byte == 46) (l.byte == 43) (l.byte == 45) (l.byte == 39) h in
    rw (
      not_either (l.byte == 39) (is_name m.byte) (is_exponent l.byte) (is_sign m.byte) a.3 (no_exponent l.byte a.0),
      or_from (is_name l.byte) (l.byte == 46) a.0 a.1,
    ) refl

pub number_append : (run rest : List Letter) → IsDull run → Stops may_continue rest → behind_number (run ++ rest) ≡ behind_number run ++ rest
number_append [] [] d h = refl
number_append [] (l ∷ rest) d h = number_stops l rest h
number_append (l ∷ []) [] d h = sym (choose_append (is_single_step l.byte) [] (l ∷ []) [])
number_append (l ∷ []) (m ∷ rest) d h =
    let a = apart (is_name m.byte) (m.byte == 46) (m.byte == 43) (m.byte == 45) (m.byte == 39) h in
    rw (not_both (l.byte == 39) (is_name m.byte) (is_exponent l.byte) (is_sign m.byte) (dull_quote l.byte d.0) a.2)
    (choose_same (is_single_step l.byte) (behind_number (m ∷ rest)) (m ∷ rest) (l ∷ m ∷ rest) (l ∷ m ∷ rest) (number_stops m rest h) refl
    ∙ sym (choose_append (is_single_step l.byte) [] (l ∷ []) (m ∷ rest)))
number_append (l ∷ m ∷ run) rest d h =
    choose_same (is_double_step l.byte m.byte) (behind_number (run ++ rest)) (behind_number run ++ rest)
    (cond (is_single_step l.byte) (behind_number (m ∷ (run ++ rest))) (l ∷ m ∷ (run ++ rest)))
    (cond (is_single_step l.byte) (behind_number (m ∷ run)) (l ∷ m ∷ run) ++ rest)
    (number_append run rest d.1.1 h)
    (choose_same (is_single_step l.byte) (behind_number (m ∷ (run ++ rest))) (behind_number (m ∷ run) ++ rest)
    (l ∷ m ∷ (run ++ rest)) (l ∷ m ∷ (run ++ rest)) (number_append (m ∷ run) rest d.1 h) refl
    ∙ sym (choose_append (is_single_step l.byte) (behind_number (m ∷ run)) (l ∷ m ∷ run) rest))
    ∙ sym (choose_append (is_double_step l.byte m.byte) (behind_number run) (cond (is_single_step l.byte) (behind_number (m ∷ run)) (l ∷ m ∷ run)) rest)

dull_no_quote : (b : ℕ) → is_dull b ≡ true → (b == 34) ≡ false
dull_no_quote b h = grind (arith, nat_tests)

-- no raw literal begins in a run whose stop is no quote
abbrev pub NoQuote : List Letter → Type 0
NoQuote ls = Stops (λ b. b == 34) ls

quote_not : (run rest : List Letter) → IsDull run → NoQuote rest → begins (codes "\"") (run ++ rest) ≡ false
quote_not [] [] d h = refl
quote_not [] (l ∷ rest) d h = rw h refl
quote_not (l ∷ run) rest d h = rw (dull_no_quote l.byte d.0) refl

head_not : (b : Bool) (y : Bool) → y ≡ false → cond b y false ≡ false
head_not true y e = e
head_not false y e = refl

-- where a run may stop: at the text's end, or at a LF
abbrev pub IsStop : List Letter → Type 0
IsStop [] = Unit {0}
IsStop (l ∷ ls) = (l.byte == 10) ≡ true

stop_no_quote : (ls : List Letter) → IsStop ls → NoQuote ls
stop_no_quote [] h = tt
stop_no_quote (l ∷ ls) h = grind (arith, nat_tests)

stop_no_name : (ls : List Letter) → IsStop ls → Stops is_name ls
stop_no_name [] h = tt
stop_no_name (l ∷ ls) h = grind (arith, nat_tests)

stop_no_blank : (ls : List Letter) → IsStop ls → Stops is_blank ls
stop_no_blank [] h = tt
stop_no_blank (l ∷ ls) h = grind (arith, nat_tests)

stop_no_number : (ls : List Letter) → IsStop ls → Stops may_continue ls
stop_no_number [] h = tt
stop_no_number (l ∷ ls) h = grind (arith, nat_tests)

pub dull_no_percent : (b : ℕ) → is_dull b ≡ true → (b == 37) ≡ false
dull_no_percent b h = grind (arith, nat_tests)

pub dull_no_hash : (b : ℕ) → is_dull b ≡ true → (b == 35) ≡ false
dull_no_hash b h = grind (arith, nat_tests)

dull_no_slash : (b : ℕ) → is_dull b ≡ true → (b == 47) ≡ false
dull_no_slash b h = grind (arith, nat_tests)

stop_no_r : (b : ℕ) → (b == 10) ≡ true → (b == 82) ≡ false
stop_no_r b h = grind (arith, nat_tests)

stop_no_8 : (b : ℕ) → (b == 10) ≡ true → (b == 56) ≡ false
stop_no_8 b h = grind (arith, nat_tests)

no_prefix : (x y z : Bool) → cond {A = ℕ} (x && false) 1 (cond {A = ℕ} (y && false) 2 (cond {A = ℕ} (z && false) 3 0)) ≡ 0
no_prefix true true true = refl
no_prefix true true false = refl
no_prefix true false true = refl
no_prefix true false false = refl
no_prefix false true true = refl
no_prefix false true false = refl
no_prefix false false true = refl
no_prefix false false false = refl

abbrev pub IsDullKind : Kind → Type 0
IsDullKind Number = Unit {0}
IsDullKind Word = Unit {0}
IsDullKind Blank = Unit {0}
IsDullKind LineEnd = Unit {0}
IsDullKind Mark = Unit {0}
IsDullKind _ = ⊥

-- a piece at the front of a dull run: what is left of the run is dull too
pub record DullFront (f : Front) (run rest : List Letter) : Type 0 where
  pub kind : IsDullKind f.kind
  pub whole_is : f.whole ≡ true
  pub left : List Letter
  pub is : f.rest ≡ left ++ rest
  pub dull : IsDull left
  pub short : length left ≤ length run

abbrev pub IfDull : Option Front → List Letter → List Letter → Type 0
IfDull None run rest = Unit {0}
IfDull (Some f) run rest = DullFront f run rest

or_else_dull : (x : Option Front) (y : Front) (run rest : List Letter) → IfDull x run rest → DullFront y run rest → DullFront (or_else x y) run rest
or_else_dull None y run rest h k = k
or_else_dull (Some f) y run rest h k = h

choose_dull : (b : Bool) (x y : Option Front) (run rest : List Letter) → IfDull x run rest → IfDull y run rest → IfDull (cond b x y) run rest
choose_dull true x y run rest h k = h
choose_dull false x y run rest h k = k

choose_run : (b : Bool) (x y : List Letter) → IsDull x → IsDull y → IsDull (cond b x y)
choose_run true x y h k = h
choose_run false x y h k = k

all_dull : (test : ℕ → Bool) (run : List Letter) → IsDull run → IsDull (behind_all test run)
all_dull test [] d = tt
all_dull test (l ∷ run) d = choose_run (test l.byte) (behind_all test run) (l ∷ run) (all_dull test run d.1) d

number_dull : (run : List Letter) → IsDull run → IsDull (behind_number run)
number_dull [] d = tt
number_dull (l ∷ []) d = choose_run (is_single_step l.byte) [] (l ∷ []) tt d
number_dull (l ∷ m ∷ run) d =
    choose_run (is_double_step l.byte m.byte) (behind_number run) (cond (is_single_step l.byte) (behind_number (m ∷ run)) (l ∷ m ∷ run))
    (number_dull run d.1.1)
    (choose_run (is_single_step l.byte) (behind_number (m ∷ run)) (l ∷ m ∷ run) (number_dull (m ∷ run) d.1) d)

whole_dull : (kind : Kind) (left run rest : List Letter) → IsDullKind kind → IsDull left → length left ≤ length run → DullFront (whole kind (left ++ rest)) run rest
whole_dull kind left run rest k d s = record { kind = k; whole_is = refl; left = left; is = refl; dull = d; short = s }

whole_dull_at : (kind : Kind) (got left run rest : List Letter) → got ≡ left ++ rest → IsDullKind kind → IsDull left → length left ≤ length run → DullFront (whole kind got) run rest
whole_dull_at kind got left run rest e k d s = record { kind = k; whole_is = refl; left = left; is = e; dull = d; short = s }

space_dull : (b : ℕ) (run rest : List Letter) → IsDull run → IsStop rest → IfDull (space_at b (run ++ rest)) run rest
unfolding space_at
space_dull b run rest d s =
    choose_dull (b == 10) (Some (whole LineEnd (run ++ rest))) (cond (is_blank b) (Some (whole Blank (behind_all is_blank (run ++ rest)))) None) run rest
    (whole_dull LineEnd run run rest tt d (omega arith))
    (choose_dull (is_blank b) (Some (whole Blank (behind_all is_blank (run ++ rest)))) None run rest
    (whole_dull_at Blank (behind_all is_blank (run ++ rest)) (behind_all is_blank run) run rest (all_append is_blank run rest (stop_no_blank rest s)) tt
    (all_dull is_blank run d) (behind_all_short is_blank run)) tt)

number_at_dull : (b : ℕ) (run rest : List Letter) → IsDull run → IsStop rest → IfDull (number_at b (run ++ rest)) run rest
unfolding number_at
number_at_dull b run rest d s =
    choose_dull (is_digit b || (b == 46 && begins_digit (run ++ rest))) (Some (whole Number (behind_number (run ++ rest)))) None run rest
    (whole_dull_at Number (behind_number (run ++ rest)) (behind_number run) run rest (number_append run rest d (stop_no_number rest s)) tt
    (number_dull run d) (behind_number_short run)) tt

word_at_dull : (b : ℕ) (run rest : List Letter) → IsDull run → IsStop rest → IfDull (word_at b (run ++ rest)) run rest
unfolding word_at
word_at_dull b run rest d s =
    choose_dull (is_name b) (Some (whole Word (behind_all is_name (run ++ rest)))) None run rest
    (whole_dull_at Word (behind_all is_name (run ++ rest)) (behind_all is_name run) run rest (all_append is_name run rest (stop_no_name rest s)) tt
    (all_dull is_name run d) (behind_all_short is_name run)) tt

mark_is : (p x q h y : Bool) (a c e : Front) → p ≡ false → h ≡ false → cond (p && x) a (cond ((p && q) || (h && y)) c e) ≡ e
mark_is p x q h y a c e f g = rw (f, g) refl

mark_at_dull : (b : ℕ) (run rest : List Letter) → is_dull b ≡ true → IsDull run → DullFront (mark_at b (run ++ rest)) run rest
unfolding mark_at
mark_at_dull b run rest h d =
    let e : mark_at b (run ++ rest) ≡ whole Mark (run ++ rest) =
    mark_is (b == 37) (begins (codes ":%:") (run ++ rest)) (begins (codes ":") (run ++ rest)) (b == 35) (begins (codes "#") (run ++ rest))
    (whole Mark (drop 3 (run ++ rest))) (whole Mark (drop 1 (run ++ rest))) (whole Mark (run ++ rest)) (dull_no_percent b h) (dull_no_hash b h) in
    subst (λ (f : Front). DullFront f run rest) (sym e) (whole_dull Mark run run rest tt d (omega arith))

header_none : (b : ℕ) (ls : List Letter) → header_at false b ls ≡ None
unfolding header_at
header_none b ls = refl

comment_none : (b : ℕ) (ls : List Letter) → is_dull b ≡ true → comment_at b ls ≡ None
unfolding comment_at
comment_none b [] h = refl
comment_none b (l ∷ ls) h = rw (dull_no_slash b h) refl

literal_none : (b : ℕ) (ls : List Letter) → is_dull b ≡ true → literal_at b ls ≡ None
unfolding literal_at
literal_none b ls h = rw (dull_no_quote b h, dull_quote b h) refl

prefix_zero : (x y z p q r : Bool) → p ≡ false → q ≡ false → r ≡ false → cond {A = ℕ} (x && p) 1 (cond {A = ℕ} (y && q) 2 (cond {A = ℕ} (z && r) 3 0)) ≡ 0
prefix_zero x y z p q r e f g = rw (e, f, g) (no_prefix x y z)

r_quote_not : (run rest : List Letter) → IsDull run → IsStop rest → begins (codes "R\"") (run ++ rest) ≡ false
r_quote_not [] [] d s = refl
r_quote_not [] (l ∷ rest) d s = rw (stop_no_r l.byte s) refl
r_quote_not (l ∷ run) rest d s = head_not (l.byte == 82) (begins (codes "\"") (run ++ rest)) (quote_not run rest d.1 (stop_no_quote rest s))

eight_not : (run rest : List Letter) → IsDull run → IsStop rest → begins (codes "8R\"") (run ++ rest) ≡ false
eight_not [] [] d s = refl
eight_not [] (l ∷ rest) d s = rw (stop_no_8 l.byte s) refl
eight_not (l ∷ run) rest d s = head_not (l.byte == 56) (begins (codes "R\"") (run ++ rest)) (r_quote_not run rest d.1 s)

raw_none : (b : ℕ) (run rest : List Letter) → IsDull run → IsStop rest → raw_at b (run ++ rest) ≡ None
unfolding raw_at
raw_none b run rest d s =
    ap (λ (n : ℕ). raw_behind n (run ++ rest))
    (prefix_zero (b == 82) (b == 76 || b == 117 || b == 85) (b == 117)
    (begins (codes "\"") (run ++ rest)) (begins (codes "R\"") (run ++ rest)) (begins (codes "8R\"") (run ++ rest))
    (quote_not run rest d (stop_no_quote rest s)) (r_quote_not run rest d s) (eight_not run rest d s))

-- the first piece of a dull run
plain_dull : (b : ℕ) (run rest : List Letter) → is_dull b ≡ true → IsDull run → IsStop rest → DullFront (plain_front b (run ++ rest)) run rest
unfolding plain_front
plain_dull b run rest h d s =
    let ls : List Letter = run ++ rest in
    rw (comment_none b ls h, raw_none b run rest d s, literal_none b ls h)
    (or_else_dull (space_at b ls) (or_else (number_at b ls) (or_else (word_at b ls) (mark_at b ls))) run rest (space_dull b run rest d s)
    (or_else_dull (number_at b ls) (or_else (word_at b ls) (mark_at b ls)) run rest (number_at_dull b run rest d s)
    (or_else_dull (word_at b ls) (mark_at b ls) run rest (word_at_dull b run rest d s)
    (mark_at_dull b run rest h d))))

pub front_dull : (b : ℕ) (run rest : List Letter) → is_dull b ≡ true → IsDull run → IsStop rest → DullFront (front false b (run ++ rest)) run rest
unfolding front
front_dull b run rest h d s = rw (header_none b (run ++ rest)) (plain_dull b run rest h d s)
