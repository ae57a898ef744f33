-- A search for `>` that passes over letters and splices.
use Rattle.std.proofs.Common.{◌≡◌, ◌≢◌, ◌⊎◌, ℕ, zero, suc, ◌+◌, ◌-◌, ◌<◌, ◌≤◌, List, [], ◌∷◌, length, get_or, drop, refl, ap, sym, subst, ◌∙◌, arith, Bool, true, false, cond, ◌==◌, Option, None, Some, inl, inr}
use Rattle.std.proofs.lemmas.List.{drop-drop, drop_more}
use Rattle.std.proofs.lemmas.Bool.{cases_lt, eqb-true}
use Rattle.std.proofs.lemmas.Bool.Decides.{nat_tests}
use Rattle.rx_lex.specs.Letters.{Letter, is_blank, letters_at, letters_from, letter_before, one_more, splice_at, splice_rest}
use Rattle.rx_lex.specs.Pieces.{behind_header}
use Rattle.rx_lex.specs.Angled.{IsBarren}
use Rattle.rx_lex.proofs.LetterLemmas.{letters_end, next_of, splice_from}

abbrev pub behind_angle : List ℕ → ℕ → Option (List Letter)
behind_angle text at = behind_header 62 (letters_at text at)

-- a letter that ends no header name
passes : (l : Letter) (ls : List Letter) → l.byte ≢ 10 → l.byte ≢ 62 → behind_header 62 (l ∷ ls) ≡ behind_header 62 ls
passes l ls h k = grind (arith, nat_tests)

-- Inside of a splice no header name ends: there are blanks and then a LF.
blank_passes : (b : ℕ) (bs : List ℕ) → is_blank b ≡ true → behind_header 62 (letters_from 0 (b ∷ bs)) ≡ behind_header 62 (letters_from 0 bs)
blank_passes b bs h = grind (arith, nat_tests)

line_stops : (b : ℕ) (bs : List ℕ) → b ≡ 10 → behind_header 62 (letters_from 0 (b ∷ bs)) ≡ None
line_stops b bs h = grind (arith, nat_tests)

one_more_some : (n : ℕ) → 0 < one_more n → 0 < n
one_more_some zero h = h
one_more_some (suc n) h = omega arith

by_byte : (e t : Bool) (n : ℕ) (x y : Option (List Letter)) → (e ≡ true → x ≡ None) → (t ≡ true → x ≡ y) → (0 < n → y ≡ None)
    → 0 < cond e 1 (cond t (one_more n) 0) → x ≡ None
by_byte true t n x y f g k h = f refl
by_byte false true n x y f g k h = g refl ∙ k (one_more_some n h)
by_byte false false n x y f g k h = absurd (omega arith)

in_splice : (bs : List ℕ) → 0 < splice_rest bs → behind_header 62 (letters_from 0 bs) ≡ None
in_splice [] h = refl
in_splice (b ∷ bs) h =
    by_byte (b == 10) (is_blank b) (splice_rest bs) (behind_header 62 (letters_from 0 (b ∷ bs))) (behind_header 62 (letters_from 0 bs))
    (λ e. line_stops b bs (eqb-true b 10 e)) (blank_passes b bs) (in_splice bs) h

inside_by : (e t : Bool) (n m j : ℕ) → (m < n → 0 < j) → suc m < cond e 1 (cond t (one_more n) 0) → 0 < j
inside_by true t n m j f h = absurd (omega arith)
inside_by false true zero m j f h = absurd (omega arith)
inside_by false true (suc n) m j f h = f (omega arith)
inside_by false false n m j f h = absurd (omega arith)

rest_inside : (bs : List ℕ) (j : ℕ) → j < splice_rest bs → 0 < splice_rest (drop j bs)
rest_inside bs zero h = h
rest_inside [] (suc j) h = absurd (omega arith)
rest_inside (b ∷ bs) (suc j) h = inside_by (b == 10) (is_blank b) (splice_rest bs) j (splice_rest (drop j bs)) (rest_inside bs j) h

splice_by : (e : Bool) (n j : ℕ) → j < cond e n 0 → j < n
splice_by true n j h = h
splice_by false n j h = absurd (omega arith)

-- a place behind the first byte of a splice
inside : (text : List ℕ) (at p : ℕ) → at < length text → at < p → p < at + 1 + splice_at (drop at text) → behind_angle text p ≡ None
inside text at p room above below =
    let byte : ℕ = get_or text at 0 in
    let bs : List ℕ = drop (at + 1) text in
    let j : ℕ = p - (at + 1) in
    let place : at + 1 + j ≡ p = omega arith in
    let here : splice_at (drop at text) ≡ splice_at (byte ∷ bs) = ap splice_at (drop_more text at 0 room) in
    let short : j < splice_at (byte ∷ bs) = omega (arith, here) in
    let more = rest_inside bs j (splice_by (byte == 92) (splice_rest bs) j short) in
    let same : drop j bs ≡ drop p text = drop-drop j (at + 1) text ∙ ap (λ (k : ℕ). drop k text) place in
    ap (λ (xs : List ℕ). behind_header 62 (letters_from 0 xs)) (sym same) ∙ in_splice (drop j bs) more

step_by : (text : List ℕ) (at n : ℕ) → at < length text → get_or text at 0 ≢ 10 → get_or text at 0 ≢ 62
    → splice_at (get_or text at 0 ∷ drop (at + 1) text) ≡ n → behind_angle text at ≡ behind_angle text (at + 1 + n)
step_by text at zero room h k e =
    let n = next_of text at room e in
    let place : at + 1 ≡ at + 1 + 0 = omega arith in
    ap (behind_header 62) n.is ∙ (passes (letter_before text (get_or text at 0) (at + 1)) (letters_at text (at + 1)) h k
    ∙ ap (λ (q : ℕ). behind_angle text q) place)
step_by text at (suc n) room h k e =
    ap (λ (xs : List ℕ). behind_header 62 (letters_from 0 xs)) (drop_more text at 0 room)
    ∙ (ap (behind_header 62) (splice_from (get_or text at 0) n (drop (at + 1) text) e)
    ∙ ap (λ (xs : List ℕ). behind_header 62 (letters_from 0 xs)) (drop-drop (suc n) (at + 1) text))

-- behind one byte, or behind one splice
step : (text : List ℕ) (at : ℕ) → at < length text → get_or text at 0 ≢ 10 → get_or text at 0 ≢ 62
    → behind_angle text at ≡ behind_angle text (at + 1 + splice_at (drop at text))
step text at room h k =
    let here : splice_at (drop at text) ≡ splice_at (get_or text at 0 ∷ drop (at + 1) text) = ap splice_at (drop_more text at 0 room) in
    step_by text at (splice_at (drop at text)) room h k (sym here)

-- From each place that was passed no name ends, or it ends as from the place that was reached.
pub record Searched (text : List ℕ) (from at : ℕ) : Type 0 where
  pub on : from ≤ at
  pub same : behind_angle text from ≡ behind_angle text at
  pub passed : (p : ℕ) → from ≤ p → p < at → (behind_angle text p ≡ None) ⊎ (behind_angle text p ≡ behind_angle text at)

pub searched_none : (text : List ℕ) (from : ℕ) → Searched text from from
searched_none text from = record { on = omega arith; same = refl; passed = λ p above below. absurd (omega arith) }

either_on : (text : List ℕ) (p at next : ℕ) → behind_angle text at ≡ behind_angle text next
    → (behind_angle text p ≡ None) ⊎ (behind_angle text p ≡ behind_angle text at) → (behind_angle text p ≡ None) ⊎ (behind_angle text p ≡ behind_angle text next)
either_on text p at next e (inl h) = inl h
either_on text p at next e (inr h) = inr (h ∙ e)

passed_more : (text : List ℕ) (from at next p : ℕ) → Searched text from at → behind_angle text at ≡ behind_angle text next
    → ((q : ℕ) → at < q → q < next → behind_angle text q ≡ None) → from ≤ p → p < next → (p < at) ⊎ (at ≤ p) → (p ≤ at) ⊎ (at < p)
    → (behind_angle text p ≡ None) ⊎ (behind_angle text p ≡ behind_angle text next)
passed_more text from at next p s e f above below (inl before) k = either_on text p at next e (s.passed p above before)
passed_more text from at next p s e f above below (inr behind) (inl here) =
    let place : p ≡ at = omega arith in inr (ap (λ (q : ℕ). behind_angle text q) place ∙ e)
passed_more text from at next p s e f above below (inr behind) (inr more) = inl (f p more below)

swap_cases : (p at : ℕ) → (at < p) ⊎ (p ≤ at) → (p ≤ at) ⊎ (at < p)
swap_cases p at (inl h) = inr h
swap_cases p at (inr h) = inl h

pub searched_more : (text : List ℕ) (from at next : ℕ) → Searched text from at → at < length text → get_or text at 0 ≢ 10 → get_or text at 0 ≢ 62
    → next ≡ at + 1 + splice_at (drop at text) → Searched text from next
searched_more text from at next s room h k e =
    let more : behind_angle text at ≡ behind_angle text next = step text at room h k ∙ ap (λ (q : ℕ). behind_angle text q) (sym e) in
    record {
      on = omega (arith, s.on);
      same = s.same ∙ more;
      passed = λ p above below. passed_more text from at next p s more
          (λ q behind before. inside text at q room behind (subst (λ (n : ℕ). q < n) e before)) above below (cases_lt p at) (swap_cases p at (cases_lt at p));
    }

-- where the search ends, none of the passed places has an end
both_none : (x y : Option (List Letter)) → y ≡ None → (x ≡ None) ⊎ (x ≡ y) → x ≡ None
both_none x y e (inl h) = h
both_none x y e (inr h) = h ∙ e

pub searched_all : (text : List ℕ) (from at : ℕ) → Searched text from at → behind_angle text at ≡ None → IsBarren text from at
searched_all text from at s e = λ p above below. both_none (behind_angle text p) (behind_angle text at) e (s.passed p above below)

pub at_line : (text : List ℕ) (at : ℕ) → at < length text → get_or text at 0 ≡ 10 → behind_angle text at ≡ None
at_line text at room h =
    ap (λ (xs : List ℕ). behind_header 62 (letters_from 0 xs)) (drop_more text at 0 room) ∙ line_stops (get_or text at 0) (drop (at + 1) text) h

pub at_end : (text : List ℕ) (at : ℕ) → length text ≤ at → behind_angle text at ≡ None
at_end text at h = ap (behind_header 62) (letters_end text at h)

angle_stops : (b : ℕ) (bs : List ℕ) → b ≡ 62 → behind_header 62 (letters_from 0 (b ∷ bs)) ≡ Some (letters_from 0 bs)
angle_stops b bs h = grind (arith, nat_tests)

pub at_angle : (text : List ℕ) (at : ℕ) → at < length text → get_or text at 0 ≡ 62 → behind_angle text at ≡ Some (letters_at text (at + 1))
at_angle text at room h =
    ap (λ (xs : List ℕ). behind_header 62 (letters_from 0 xs)) (drop_more text at 0 room) ∙ angle_stops (get_or text at 0) (drop (at + 1) text) h
