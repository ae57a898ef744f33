-- The letters from a place on: at a plain byte, at a splice, and over a run without splices.
use Rattle.std.proofs.Common.{◌≡◌, ◌≢◌, ℕ, zero, suc, ◌+◌, ◌-◌, ◌<◌, ◌≤◌, List, [], ◌∷◌, ◌++◌, length, get_or, take, drop, refl, ap, sym, subst, ◌∙◌, arith, length-drop, Bool, true, false, zero-add}
use Rattle.std.proofs.lemmas.List.{drop_all, drop-drop, get_or-drop, take_all, drop_more}
use Rattle.std.proofs.Math.Nat.{add-zero}
use Rattle.memchr.specs.Find.{Nowhere, NoneBefore, Passes}
use Rattle.std.proofs.lemmas.Bool.Decides.{nat_tests}
use Rattle.std.specs.Prelude.{nat_lt}
use Rattle.std.proofs.lemmas.Bool.{false_from_ne_true, true≢false}
use Rattle.rx_lex.specs.Letters.{Letter, begins, letters_from, letters_at, splice_at, splice_rest, one_more, IsNext, ReadsSame, Without, is_blank, letter_before}

-- behind a splice the letters go on
pub letters_skip : (n : ℕ) (xs : List ℕ) → letters_from n xs ≡ letters_from 0 (drop n xs)
letters_skip zero xs = refl
letters_skip (suc n) [] = refl
letters_skip (suc n) (x ∷ xs) = letters_skip n xs

pub letters_end : (text : List ℕ) (at : ℕ) → length text ≤ at → letters_at text at ≡ []
letters_end text at h = ap (λ xs. letters_from 0 xs) (drop_all at text h)

-- at a byte that begins no splice
plain_from : (b : ℕ) (bs : List ℕ) → splice_at (b ∷ bs) ≡ 0
    → letters_from 0 (b ∷ bs) ≡ (record { byte = b; split = nat_lt 0 (splice_at bs) }) ∷ letters_from 0 bs
plain_from b bs e = rw e

pub splice_from : (b n : ℕ) (bs : List ℕ) → splice_at (b ∷ bs) ≡ suc n → letters_from 0 (b ∷ bs) ≡ letters_from 0 (drop (suc n) bs)
splice_from b n bs e = rw e (letters_skip (suc n) bs)

no_splice : (b : ℕ) (bs : List ℕ) → b ≢ 92 → splice_at (b ∷ bs) ≡ 0
no_splice b bs h = grind (arith, nat_tests)

its_splice : (b : ℕ) (bs : List ℕ) → b ≡ 92 → splice_at (b ∷ bs) ≡ splice_rest bs
its_splice b bs h = grind (arith, nat_tests)

pub next_of : (text : List ℕ) (at : ℕ) → at < length text → splice_at (get_or text at 0 ∷ drop (at + 1) text) ≡ 0
    → IsNext text at (get_or text at 0) (at + 1)
next_of text at h e = record {
  is = ap (λ xs. letters_from 0 xs) (drop_more text at 0 h) ∙ plain_from (get_or text at 0) (drop (at + 1) text) e;
  on = omega arith;
  within = omega arith;
}

pub next_plain : (text : List ℕ) (at : ℕ) → at < length text → get_or text at 0 ≢ 92 → IsNext text at (get_or text at 0) (at + 1)
next_plain text at h e = next_of text at h (no_splice (get_or text at 0) (drop (at + 1) text) e)

pub next_backslash : (text : List ℕ) (at : ℕ) → at < length text → get_or text at 0 ≡ 92 → splice_rest (drop (at + 1) text) ≡ 0
    → IsNext text at (get_or text at 0) (at + 1)
next_backslash text at h e none = next_of text at h (its_splice (get_or text at 0) (drop (at + 1) text) e ∙ none)

-- behind a splice of `skip` bytes and its backslash
pub letters_splice : (text : List ℕ) (at skip : ℕ) → at < length text → get_or text at 0 ≡ 92
    → splice_rest (drop (at + 1) text) ≡ skip → 0 < skip → letters_at text at ≡ letters_at text (at + 1 + skip)
letters_splice text at zero h e s more = absurd (omega arith)
letters_splice text at (suc n) h e s more =
    ap (λ xs. letters_from 0 xs) (drop_more text at 0 h)
    ∙ splice_from (get_or text at 0) n (drop (at + 1) text) (its_splice (get_or text at 0) (drop (at + 1) text) e ∙ s)
    ∙ ap (λ xs. letters_from 0 xs) (drop-drop (suc n) (at + 1) text)

-- from an earlier place, over letters that were passed
pub next_from : (text : List ℕ) (from at byte next : ℕ) → letters_at text from ≡ letters_at text at → from ≤ at → IsNext text at byte next
    → IsNext text from byte next
next_from text from at byte next e le n = record { is = e ∙ n.is; on = omega (arith, n.on); within = n.within }

-- The length of a splice of which k bytes were seen.
abbrev pub added : ℕ → ℕ → ℕ
added k zero = 0
added k (suc n) = k + suc n

pub added_zero : (n : ℕ) → added 0 n ≡ n
added_zero zero = refl
added_zero (suc n) = zero-add (suc n)

pub added-one_more : (k n : ℕ) → added k (one_more n) ≡ added (k + 1) n
added-one_more k zero = refl
added-one_more k (suc n) = omega arith

pub splice_blank : (b : ℕ) (bs : List ℕ) → b ≢ 10 → is_blank b ≡ true → splice_rest (b ∷ bs) ≡ one_more (splice_rest bs)
splice_blank b bs h e = grind (arith, nat_tests)

pub splice_other : (b : ℕ) (bs : List ℕ) → b ≢ 10 → is_blank b ≡ false → splice_rest (b ∷ bs) ≡ 0
splice_other b bs h e = grind (arith, nat_tests)

pub splice_end : (b : ℕ) (bs : List ℕ) → b ≡ 10 → splice_rest (b ∷ bs) ≡ 1
splice_end b bs h = grind (arith, nat_tests)

pub no_backslash : (test : ℕ → Bool) (b : ℕ) → test 92 ≡ true → test b ≡ false → b ≢ 92
no_backslash test b h f e = true≢false (sym (ap test e ∙ h) ∙ f)

-- so many bytes as letters
abbrev pub plain : List ℕ → ℕ → ℕ → List Letter
plain text at zero = []
plain text at (suc n) = letter_before text (get_or text at 0) (at + 1) ∷ plain text (at + 1) n

pub plain_length : (text : List ℕ) (n at : ℕ) → length (plain text at n) ≡ n
plain_length text zero at = refl
plain_length text (suc n) at = ap (λ (k : ℕ). suc k) (plain_length text n (at + 1))

without_behind : (test : ℕ → Bool) (text : List ℕ) (n at : ℕ) → Without test text at (at + suc n) → Without test text (at + 1) (at + 1 + n)
without_behind test text n at w = record {
  on = omega arith;
  within = omega (arith, w.within);
  none = λ k above below. w.none k (omega arith) (omega arith);
}

-- A run without splices is read as its bytes.
pub plain_is : (test : ℕ → Bool) → test 92 ≡ true → (text : List ℕ) (n at : ℕ) → Without test text at (at + n)
    → letters_at text at ≡ plain text at n ++ letters_at text (at + n)
plain_is test mark text zero at w = ap (λ p. letters_at text p) (sym (add-zero at))
plain_is test mark text (suc n) at w =
    let here : test (get_or text at 0) ≡ false = false_from_ne_true (test (get_or text at 0)) (w.none at (omega arith) (omega arith)) in
    let next : IsNext text at (get_or text at 0) (at + 1) = next_plain text at (omega (arith, w.within)) (no_backslash test (get_or text at 0) mark here) in
    let place : at + 1 + n ≡ at + suc n = omega arith in
    let l : Letter = letter_before text (get_or text at 0) (at + 1) in
    next.is
    ∙ (ap (λ (ls : List Letter). l ∷ ls) (plain_is test mark text n (at + 1) (without_behind test text n at w))
    ∙ ap (λ (p : ℕ). l ∷ (plain text (at + 1) n ++ letters_at text p)) place)

skips_over : {X : Type 0} (F : List Letter → X) (test : ℕ → Bool) → ((l : Letter) (ls : List Letter) → test l.byte ≡ false → F (l ∷ ls) ≡ F ls)
    → (text : List ℕ) (n at : ℕ) (rest : List Letter) → Without test text at (at + n) → F (plain text at n ++ rest) ≡ F rest
skips_over F test each text zero at rest w = refl
skips_over F test each text (suc n) at rest w =
    each (letter_before text (get_or text at 0) (at + 1)) (plain text (at + 1) n ++ rest) (false_from_ne_true (test (get_or text at 0)) (w.none at (omega arith) (omega arith)))
    ∙ skips_over F test each text n (at + 1) rest (without_behind test text n at w)

pub reads_without : {X : Type 0} (F : List Letter → X) (test : ℕ → Bool) → test 92 ≡ true
    → ((l : Letter) (ls : List Letter) → test l.byte ≡ false → F (l ∷ ls) ≡ F ls)
    → (text : List ℕ) (at to : ℕ) → Without test text at to → ReadsSame F text at to
reads_without F test mark each text at to w =
    let place : at + (to - at) ≡ to = omega (arith, w.on) in
    let run : Without test text at (at + (to - at)) = subst (Without test text at) (sym place) w in
    record {
      same = ap F (plain_is test mark text (to - at) at run)
          ∙ (skips_over F test each text (to - at) at (letters_at text (at + (to - at))) run
          ∙ ap (λ p. F (letters_at text p)) place);
      on = w.on;
      within = w.within;
    }

passes_at : (test : ℕ → Bool) (text : List ℕ) (at k : ℕ) → at ≤ k → test (get_or text k 0) ≡ true → Passes test (drop at text) (k - at)
passes_at test text at k le e =
    let place : at + (k - at) ≡ k = omega arith in
    ap test (get_or-drop at text (k - at) 0 ∙ ap (λ p. get_or text p 0) place) ∙ e

pub without_of : (test : ℕ → Bool) (text : List ℕ) (at n : ℕ) → at + n ≤ length text → Nowhere (Passes test (drop at text)) 0 n
    → Without test text at (at + n)
without_of test text at n le none = record {
  on = omega arith;
  within = le;
  none = λ k above below e. none (k - at) (omega arith) (omega arith) (passes_at test text at k above e);
}

pub range_all : (text : List ℕ) (at : ℕ) → take (length text - at) (drop at text) ≡ drop at text
range_all text at = take_all (length text - at) (drop at text) (omega (arith, length-drop at text))

pub without_found : (test : ℕ → Bool) (text : List ℕ) (at n : ℕ) → at ≤ length text
    → NoneBefore (Passes test (take (length text - at) (drop at text))) 0 (length (take (length text - at) (drop at text))) n
    → Without test text at (at + n)
without_found test text at n le h =
    let e = range_all text at in
    let g = rw e at h in
    without_of test text at n (omega (arith, g.high, length-drop at text)) g.before

pub without_any : (test : ℕ → Bool) (text : List ℕ) (at : ℕ) → at ≤ length text
    → Nowhere (Passes test (take (length text - at) (drop at text))) 0 (length (take (length text - at) (drop at text)))
    → Without test text at (length text)
without_any test text at le h =
    let e = range_all text at in
    let g = rw e at h in
    let place : at + length (drop at text) ≡ length text = omega (arith, length-drop at text) in
    subst (Without test text at) place (without_of test text at (length (drop at text)) (omega (arith, length-drop at text)) g)

-- one byte further of a text that is looked for
begins_cons : (b : ℕ) (bs : List ℕ) (l : Letter) (ls : List Letter) → l.byte ≡ b → begins (b ∷ bs) (l ∷ ls) ≡ begins bs ls
begins_cons b bs l ls e = grind (arith, nat_tests)

begins_other : (b : ℕ) (bs : List ℕ) (l : Letter) (ls : List Letter) → l.byte ≢ b → begins (b ∷ bs) (l ∷ ls) ≡ false
begins_other b bs l ls e = grind (arith, nat_tests)

pub begins_next : (wanted : List ℕ) (i : ℕ) (now : List Letter) (l : Letter) (rest : List Letter) → i < length wanted → now ≡ l ∷ rest
    → l.byte ≡ get_or wanted i 0 → begins (drop i wanted) now ≡ begins (drop (i + 1) wanted) rest
begins_next wanted i now l rest h n e =
    ap (λ (xs : List Letter). begins (drop i wanted) xs) n
    ∙ (ap (λ (bs : List ℕ). begins bs (l ∷ rest)) (drop_more wanted i 0 h)
    ∙ begins_cons (get_or wanted i 0) (drop (i + 1) wanted) l rest e)

pub begins_not : (wanted : List ℕ) (i : ℕ) (now : List Letter) → i < length wanted → now ≡ [] → begins (drop i wanted) now ≡ false
begins_not wanted i now h n =
    ap (λ (xs : List Letter). begins (drop i wanted) xs) n ∙ ap (λ (bs : List ℕ). begins bs []) (drop_more wanted i 0 h)

pub rest_next : (whole now : List Letter) (i : ℕ) (l : Letter) (rest : List Letter) → now ≡ drop i whole → now ≡ l ∷ rest → rest ≡ drop (i + 1) whole
rest_next whole now i l rest e n =
    ap (λ (xs : List Letter). drop 1 xs) (sym n ∙ e) ∙ drop-drop 1 i whole
