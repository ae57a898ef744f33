-- The letters of a raw literal.
use Rattle.std.proofs.Common.{◌≡◌, ◌≢◌, ℕ, suc, ◌+◌, ◌-◌, ◌<◌, ◌≤◌, List, [], ◌∷◌, ◌++◌, length, take, drop, refl, ap, sym, subst, ◌∙◌, arith, Bool, true, false, cond, ◌==◌, Option, Some, None, length-drop, length-append}
use Rattle.std.proofs.lemmas.List.{drop-drop}
use Rattle.std.proofs.lemmas.Bool.Decides.{nat_tests}
use Rattle.std.proofs.lemmas.Bool.{ne_eqb, or_parts}
use Rattle.memchr.specs.Find.{is_byte2}
use Rattle.rx_lex.specs.Letters.{Letter, begins, letters_at, IsBegun, IsNext, Without}
use Rattle.rx_lex.specs.Pieces.{behind_text}
use Rattle.rx_lex.specs.Line.{any}
use Rattle.rx_lex.specs.Directives.{contains}
use Rattle.rx_lex.proofs.LetterLemmas.{plain, plain_is, plain_length}
use Rattle.rx_lex.proofs.TextLemmas.{by_head, by_no_head, head_false}

-- a count goes down as its letter is passed
split_step : (n : ℕ) (l : Letter) (now ls : List Letter) → now ≡ l ∷ ls → l.split ≡ false
    → any (λ (m : Letter). m.split) (take (suc n) now) ≡ any (λ (m : Letter). m.split) (take n ls)
split_step n l now ls e h = rw (e, h) refl

pub split_more : (left : ℕ) (l : Letter) (now ls : List Letter) → 0 < left → now ≡ l ∷ ls → l.split ≡ false
    → any (λ (m : Letter). m.split) (take left now) ≡ any (λ (m : Letter). m.split) (take (left - 1) ls)
split_more left l now ls more e h =
    let n : suc (left - 1) ≡ left = omega arith in
    ap (λ (k : ℕ). any (λ (m : Letter). m.split) (take k now)) (sym n) ∙ split_step (left - 1) l now ls e h

line_step : (n : ℕ) (l : Letter) (now ls : List Letter) → now ≡ l ∷ ls → (l.byte == 10) ≡ false
    → contains (10 ∷ []) (take (suc n) now) ≡ contains (10 ∷ []) (take n ls)
line_step n l now ls e h = rw (e, h) refl

pub line_more : (left : ℕ) (l : Letter) (now ls : List Letter) → 0 < left → now ≡ l ∷ ls → l.byte ≢ 10
    → contains (10 ∷ []) (take left now) ≡ contains (10 ∷ []) (take (left - 1) ls)
line_more left l now ls more e h =
    let n : suc (left - 1) ≡ left = omega arith in
    ap (λ (k : ℕ). contains (10 ∷ []) (take k now)) (sym n) ∙ line_step (left - 1) l now ls e (ne_eqb l.byte 10 h)

-- the search for the end passes over each letter that isn't `)`
pub close_passes : (name : List ℕ) (l : Letter) (ls : List Letter) → is_byte2 41 92 l.byte ≡ false → behind_text (41 ∷ name) (l ∷ ls) ≡ behind_text (41 ∷ name) ls
close_passes name l ls h = rw (or_parts (l.byte == 41) (l.byte == 92) h).0 refl

pub close_other : (name : List ℕ) (l : Letter) (ls : List Letter) → begins (41 ∷ name) (l ∷ ls) ≡ false → behind_text (41 ∷ name) (l ∷ ls) ≡ behind_text (41 ∷ name) ls
close_other name l ls h = rw h refl

pub close_here : (name : List ℕ) (l : Letter) (ls : List Letter) → begins (41 ∷ name) (l ∷ ls) ≡ true
    → behind_text (41 ∷ name) (l ∷ ls) ≡ Some (drop (suc (length name)) (l ∷ ls))
close_here name l ls h = rw h refl

-- a run without splices has as many letters as bytes
pub plain_count_to : (test : ℕ → Bool) → test 92 ≡ true → (text : List ℕ) (at to : ℕ) → Without test text at to
    → to + length (letters_at text to) ≡ at + length (letters_at text at)
plain_count_to test mark text at to w =
    let n : ℕ = to - at in
    let place : at + n ≡ to = omega (arith, w.on) in
    let run : letters_at text at ≡ plain text at n ++ letters_at text (at + n) = plain_is test mark text n at (subst (Without test text at) (sym place) w) in
    let all : length (letters_at text at) ≡ length (plain text at n ++ letters_at text (at + n)) = ap (λ (ls : List Letter). length ls) run in
    let same : length (letters_at text (at + n)) ≡ length (letters_at text to) = ap (λ (p : ℕ). length (letters_at text p)) place in
    omega (arith, all, same, length-append (plain text at n) (letters_at text (at + n)), plain_length text n at)

-- `)`, a delimiter and a quote
pub begins_append : (one other : List ℕ) (ls : List Letter) → begins one ls ≡ true → begins (one ++ other) ls ≡ begins other (drop (length one) ls)
begins_append [] other ls h = refl
begins_append (b ∷ bs) other [] h = absurd (grind arith)
begins_append (b ∷ bs) other (l ∷ ls) h =
    by_head (l.byte == b) (begins bs ls) (begins (bs ++ other) ls) (begins other (drop (length bs) ls)) (begins_append bs other ls) h

pub begins_append_not : (one other : List ℕ) (ls : List Letter) → begins one ls ≡ false → begins (one ++ other) ls ≡ false
begins_append_not [] other ls h = absurd (grind arith)
begins_append_not (b ∷ bs) other [] h = refl
begins_append_not (b ∷ bs) other (l ∷ ls) h = by_no_head true (l.byte == b) (begins bs ls) (begins (bs ++ other) ls) (begins_append_not bs other ls) h

on_length : (t x : Bool) (m n : ℕ) → (x ≡ true → m ≤ n) → cond t x false ≡ true → suc m ≤ suc n
on_length true x m n f h = omega (arith, f h)
on_length false x m n f h = absurd (grind arith)

pub begins_long : (wanted : List ℕ) (ls : List Letter) → begins wanted ls ≡ true → length wanted ≤ length ls
begins_long [] ls h = omega arith
begins_long (b ∷ bs) [] h = absurd (grind arith)
begins_long (b ∷ bs) (l ∷ ls) h = on_length (l.byte == b) (begins bs ls) (length bs) (length ls) (begins_long bs ls) h

-- what `begins` passed
pub begins_count : (text : List ℕ) (from end : ℕ) (wanted : List ℕ) → begins wanted (letters_at text from) ≡ true
    → letters_at text end ≡ drop (length wanted) (letters_at text from) → length wanted + length (letters_at text end) ≡ length (letters_at text from)
begins_count text from end wanted h e =
    omega (arith, begins_long wanted (letters_at text from) h, ap (λ (ls : List Letter). length ls) e, length-drop (length wanted) (letters_at text from))

closes : (name : List ℕ) (l : Letter) (ls : List Letter) → l.byte ≡ 41 → begins (41 ∷ name) (l ∷ ls) ≡ begins name ls
closes name l ls h = grind (arith, nat_tests)

-- the search ends where its text begins, behind `)`
pub close_found : (name : List ℕ) (l : Letter) (now ls behind : List Letter) → now ≡ l ∷ ls → l.byte ≡ 41 → begins name ls ≡ true → behind ≡ drop (length name) ls
    → behind_text (41 ∷ name) now ≡ Some behind
close_found name l now ls behind n h b e =
    ap (λ (x : List Letter). behind_text (41 ∷ name) x) n
    ∙ (close_here name l ls (closes name l ls h ∙ b) ∙ ap (λ (x : List Letter). Some x) (sym e))

pub close_not : (name : List ℕ) (l : Letter) (now ls : List Letter) → now ≡ l ∷ ls → begins name ls ≡ false → behind_text (41 ∷ name) now ≡ behind_text (41 ∷ name) ls
close_not name l now ls n b =
    ap (λ (x : List Letter). behind_text (41 ∷ name) x) n ∙ close_other name l ls (head_false (l.byte == 41) (begins name ls) b)

pub close_passed : (name : List ℕ) (l : Letter) (now ls : List Letter) → now ≡ l ∷ ls → l.byte ≢ 41 → behind_text (41 ∷ name) now ≡ behind_text (41 ∷ name) ls
close_passed name l now ls n h = ap (λ (x : List Letter). behind_text (41 ∷ name) x) n ∙ close_other name l ls (rw (ne_eqb l.byte 41 h) refl)

-- a text in two parts
pub begun_both : (one other : List ℕ) (ls middle behind : List Letter) → begins one ls ≡ true → middle ≡ drop (length one) ls
    → begins other middle ≡ true → behind ≡ drop (length other) middle
    → (begins (one ++ other) ls ≡ true) × (behind ≡ drop (length (one ++ other)) ls)
begun_both one other ls middle behind h m k e =
    let long : length (one ++ other) ≡ length one + length other = length-append one other in (
      begins_append one other ls h ∙ (ap (λ (x : List Letter). begins other x) (sym m) ∙ k),
      e ∙ (ap (λ (x : List Letter). drop (length other) x) m ∙ (drop-drop (length other) (length one) ls ∙ ap (λ (n : ℕ). drop n ls) (sym long))),
    )

pub begun_not : (one other : List ℕ) (ls middle : List Letter) → begins one ls ≡ true → middle ≡ drop (length one) ls
    → begins other middle ≡ false → begins (one ++ other) ls ≡ false
begun_not one other ls middle h m k = begins_append one other ls h ∙ (ap (λ (x : List Letter). begins other x) (sym m) ∙ k)

pub letter_count : (text : List ℕ) (at byte next : ℕ) → IsNext text at byte next → length (letters_at text at) ≡ suc (length (letters_at text next))
letter_count text at byte next n = ap (λ (ls : List Letter). length ls) n.is

pub begun_at : (text : List ℕ) (from middle : ℕ) (one other : List ℕ) (end : Option ℕ)
    → IsBegun text from one (Some middle) → IsBegun text middle other end → IsBegun text from (one ++ other) end
begun_at text from middle one other None a b = begun_not one other (letters_at text from) (letters_at text middle) a.0 a.1 b
begun_at text from middle one other (Some end) a b =
    let both = begun_both one other (letters_at text from) (letters_at text middle) (letters_at text end) a.0 a.1 b.0 b.1 in
    (both.0, both.1, omega (arith, a.2, b.2, length-append one other), b.3)
