-- From what the code knows of the text ahead comes a dull run.
use Rattle.std.proofs.Common.{◌≡◌, ◌≢◌, ℕ, zero, suc, ◌+◌, ◌-◌, ◌<◌, ◌≤◌, List, [], ◌∷◌, ◌++◌, length, length-drop, get_or, drop, take, refl, ap, sym, subst, ◌∙◌, arith, Bool, true, false, cond, ◌||◌, ◌==◌}
use Rattle.std.specs.Prelude.{codes}
use Rattle.std.proofs.lemmas.List.{get_or-drop, get_or-take, length-take-le}
use Rattle.std.proofs.lemmas.Bool.{eqb-true, false_from_ne_true, not_from_false, or_from}
use Rattle.memchr.specs.Find.{NoneBefore, Nowhere, OccursAt, Passes, is_byte}
use Rattle.rx_lex.specs.Letters.{IsNext, Letter, Without, begins, letter_before, letters_at}
use Rattle.rx_lex.specs.Quiet.{IsAhead, IsDull, IsLineEnd, Run, may_matter, opens_literal, opens_mark, quiet_end}
use Rattle.rx_lex.specs.declared.quiet.Ahead.{Ahead}
use Rattle.rx_lex.proofs.LetterLemmas.{next_plain, plain, plain_is, range_all}

-- what is nowhere is nowhere in a part
nowhere_part : (P : ℕ → Type 0) (i j low high : ℕ) → Nowhere P i j → i ≤ low → high ≤ j → Nowhere P low high
nowhere_part P i j low high h a b = λ k above below. h k (omega arith) (omega arith)

-- a part of the text that is dull and has no `import` and `module`
pub record IsQuiet (text : List ℕ) (from to : ℕ) : Type 0 where
  pub dull : Without may_matter text from to
  pub import_word : Nowhere (OccursAt text (codes "import")) from to
  pub module_word : Nowhere (OccursAt text (codes "module")) from to

quiet_part : (text : List ℕ) (from to low high : ℕ) → IsQuiet text from to → from ≤ low → low ≤ high → high ≤ to → IsQuiet text low high
quiet_part text from to low high q a on b = record {
  dull = record {
    on = on;
    within = omega (arith, q.dull.within);
    none = nowhere_part (Passes may_matter text) from to low high q.dull.none a b;
  };
  import_word = nowhere_part (OccursAt text (codes "import")) from to low high q.import_word a b;
  module_word = nowhere_part (OccursAt text (codes "module")) from to low high q.module_word a b;
}

pub ahead_later : (text : List ℕ) (at later : ℕ) (ahead : Ahead) → IsAhead text at ahead → at ≤ later → IsAhead text later ahead
ahead_later text at later ahead h a = record {
  import_word = nowhere_part (OccursAt text (codes "import")) at ahead.import_at later ahead.import_at h.import_word a (omega arith);
  module_word = nowhere_part (OccursAt text (codes "module")) at ahead.module_at later ahead.module_at h.module_word a (omega arith);
  literal = nowhere_part (Passes opens_literal text) at ahead.literal_at later ahead.literal_at h.literal a (omega arith);
  mark = nowhere_part (Passes opens_mark text) at ahead.mark_at later ahead.mark_at h.mark a (omega arith);
}

pub ahead_nothing : (text : List ℕ) (at : ℕ) (ahead : Ahead) → ahead ≡ (record { import_at = 0; module_at = 0; literal_at = 0; mark_at = 0 }) → IsAhead text at ahead
ahead_nothing text at ahead e = subst (λ (ahead : Ahead). IsAhead text at ahead) (sym e) (record {
  import_word = λ k above below. absurd (omega arith);
  module_word = λ k above below. absurd (omega arith);
  literal = λ k above below. absurd (omega arith);
  mark = λ k above below. absurd (omega arith);
})

matters_not : (x y : Bool) → ¬ (x ≡ true) → ¬ (y ≡ true) → ¬ ((x || y) ≡ true)
matters_not true y f g h = f refl
matters_not false y f g h = g h

pub quiet_ahead : (text : List ℕ) (at : ℕ) (ahead : Ahead) → IsAhead text at ahead → at ≤ quiet_end ahead → quiet_end ahead ≤ length text → IsQuiet text at (quiet_end ahead)
quiet_ahead text at ahead h on room = record {
  dull = record {
    on = on;
    within = room;
    none = λ k above below.
        matters_not (opens_literal (get_or text k 0)) (opens_mark (get_or text k 0)) (h.literal k above (omega arith)) (h.mark k above (omega arith));
  };
  import_word = nowhere_part (OccursAt text (codes "import")) at ahead.import_at at (quiet_end ahead) h.import_word (omega arith) (omega arith);
  module_word = nowhere_part (OccursAt text (codes "module")) at ahead.module_at at (quiet_end ahead) h.module_word (omega arith) (omega arith);
}

-- a word that the letters begin with occurs in the text
reads_more : (text word : List ℕ) (b at : ℕ) → get_or text at 0 ≡ b → OccursAt text word (at + 1)
    → (j : ℕ) → j < length (b ∷ word) → get_or text (at + j) 0 ≡ get_or (b ∷ word) j 0
reads_more text word b at h o zero below = let place : at + 0 ≡ at = omega arith in ap (λ (k : ℕ). get_or text k 0) place ∙ h
reads_more text word b at h o (suc j) below =
    let place : at + suc j ≡ at + 1 + j = omega arith in ap (λ (k : ℕ). get_or text k 0) place ∙ o.reads j (omega arith)

occurs_more : (text word : List ℕ) (b at : ℕ) → at < length text → get_or text at 0 ≡ b → OccursAt text word (at + 1) → OccursAt text (b ∷ word) at
occurs_more text word b at room h o = record {
  fits = omega (arith, o.fits);
  reads = reads_more text word b at h o;
}

test_parts : (t x : Bool) → cond t x false ≡ true → (t ≡ true) × (x ≡ true)
test_parts true x h = (refl, h)
test_parts false x h = absurd (grind arith)

pub begins_occurs : (text word : List ℕ) (n at : ℕ) → at + n ≤ length text → begins word (plain text at n) ≡ true → OccursAt text word at
begins_occurs text [] n at room h = record { fits = omega arith; reads = λ j below. absurd (omega arith) }
begins_occurs text (b ∷ word) zero at room h = absurd (grind arith)
begins_occurs text (b ∷ word) (suc n) at room h =
    let parts = test_parts (get_or text at 0 == b) (begins word (plain text (at + 1) n)) h in
    occurs_more text word b at (omega arith) (eqb-true (get_or text at 0) b parts.0) (begins_occurs text word n (at + 1) (omega arith) parts.1)

pub plain_quiet : (text : List ℕ) (n at : ℕ) → IsQuiet text at (at + n) → IsDull (plain text at n)
plain_quiet text zero at q = tt
plain_quiet text (suc n) at q =
    let room : at + suc n ≤ length text = q.dull.within in (
      not_from_false (may_matter (get_or text at 0)) (false_from_ne_true (may_matter (get_or text at 0)) (q.dull.none at (omega arith) (omega arith))),
      plain_quiet text n (at + 1) (quiet_part text at (at + suc n) (at + 1) (at + 1 + n) q (omega arith) (omega arith) (omega arith)),
      or_from (begins (codes "import") (plain text at (suc n))) (begins (codes "module") (plain text at (suc n)))
          (false_from_ne_true (begins (codes "import") (plain text at (suc n)))
          (λ e. q.import_word at (omega arith) (omega arith) (begins_occurs text (codes "import") (suc n) at room e)))
          (false_from_ne_true (begins (codes "module") (plain text at (suc n)))
          (λ e. q.module_word at (omega arith) (omega arith) (begins_occurs text (codes "module") (suc n) at room e))),
    )

line_no_backslash : (b : ℕ) → b ≡ 10 → b ≢ 92
line_no_backslash b h e = grind arith

-- from what was looked at to a run
pub run_of : (text : List ℕ) (from to place : ℕ) → IsQuiet text from to → IsLineEnd text from to place → Run text from (place + 1)
run_of text from to place q line =
    let n : ℕ = place - from in
    let e : from + n ≡ place = omega (arith, line.on) in
    let quiet : IsQuiet text from (from + n) = quiet_part text from to from (from + n) q (omega arith) (omega arith) (omega (arith, line.before)) in
    let next : IsNext text place (get_or text place 0) (place + 1) =
    next_plain text place (omega (arith, q.dull.within, line.before)) (line_no_backslash (get_or text place 0) line.is) in
    record {
      run = plain text from n;
      last = letter_before text (get_or text place 0) (place + 1);
      is = plain_is may_matter refl text n from quiet.dull
          ∙ (ap (λ (p : ℕ). plain text from n ++ letters_at text p) e
          ∙ ap (λ (ls : List Letter). plain text from n ++ ls) next.is);
      dull = plain_quiet text n from quiet;
      line_end = line.is;
    }

-- a word that occurs in a text occurs in its rest
occurs_behind : (text word : List ℕ) (at k : ℕ) → at ≤ k → OccursAt text word k → OccursAt (drop at text) word (k - at)
occurs_behind text word at k above o = record {
  fits = omega (arith, o.fits, length-drop at text);
  reads = λ j below.
      let place : at + (k - at + j) ≡ k + j = omega arith in
      get_or-drop at text (k - at + j) 0 ∙ (ap (λ (p : ℕ). get_or text p 0) place ∙ o.reads j below);
}

pub word_found : (text word : List ℕ) (at n : ℕ) → at ≤ length text
    → NoneBefore (OccursAt (take (length text - at) (drop at text)) word) 0 (length (take (length text - at) (drop at text)) + 1) n
    → Nowhere (OccursAt text word) at (at + n)
word_found text word at n room h =
    let e = range_all text at in
    let g = rw e at h in
    λ k above below o. g.before (k - at) (omega arith) (omega arith) (occurs_behind text word at k above o)

pub word_nowhere : (text word : List ℕ) (at : ℕ) → at ≤ length text
    → Nowhere (OccursAt (take (length text - at) (drop at text)) word) 0 (length (take (length text - at) (drop at text)) + 1)
    → Nowhere (OccursAt text word) at (length text)
word_nowhere text word at room h =
    let e = range_all text at in
    let g = rw e at h in
    λ k above below o. g (k - at) (omega arith) (omega (arith, length-drop at text)) (occurs_behind text word at k above o)

pub found_within : (text word : List ℕ) (at n : ℕ) → at ≤ length text → OccursAt (take (length text - at) (drop at text)) word n → at + n ≤ length text
found_within text word at n room o =
    let e = range_all text at in
    let g = rw e at o in
    omega (arith, g.fits, length-drop at text)

-- the last LF of a part of the text
pub line_found : (text : List ℕ) (from to found : ℕ) → from ≤ to → to ≤ length text → found < length (take (to - from) (drop from text))
    → is_byte 10 (get_or (take (to - from) (drop from text)) found 0) ≡ true → IsLineEnd text from to (from + found)
line_found text from to found on within high h =
    let room : to - from ≤ length (drop from text) = omega (arith, length-drop from text) in
    let size : length (take (to - from) (drop from text)) ≡ to - from = length-take-le (to - from) (drop from text) room in
    let short : found < to - from = omega (arith, size) in
    let same : get_or (take (to - from) (drop from text)) found 0 ≡ get_or text (from + found) 0 =
    get_or-take (to - from) (drop from text) found 0 short ∙ get_or-drop from text found 0 in
    record { on = omega arith; before = omega arith; is = sym same ∙ eqb-true (get_or (take (to - from) (drop from text)) found 0) 10 h }
