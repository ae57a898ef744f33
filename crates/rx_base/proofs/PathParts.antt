-- The parts of a text between its slashes, and bytes that a text lacks.
use Rattle.std.proofs.Common.{◌≡◌, ◌≢◌, ◌==◌, ℕ, ◌≤◌, inl, inr, List, [], ◌∷◌, ◌++◌, length, Option, Some, None, nat_lt, Ok, Err, refl, arith}
use Rattle.std.specs.Prelude.{position, slice_index}
use Rattle.std.specs.List.{onto_first, AllByRecursion, position_or_len}
use Rattle.std.proofs.lemmas.Bool.{cases_Bool, cond_both, eqb-false, ltb-false, ne_eqb}
use Rattle.rx_base.specs.declared.path_fault.PathFault.TheVariants.{Absolute}
use Rattle.rx_base.specs.Paths.{Lacks, parts, without_zero, checked}
use Rattle.rx_base.proofs.Conditions.{cond-cases, cond-None, nat_lt-itself}

-- ---- parts

onto_first-lacks : (c x : ℕ) (ps : List (List ℕ)) → x ≢ c → AllByRecursion (Lacks c) ps → AllByRecursion (Lacks c) (onto_first x ps)
onto_first-lacks c x [] ne h = ((ne, tt), tt)
onto_first-lacks c x (p ∷ ps) ne h = ((ne, h.0), h.1)

-- no part has a slash
pub parts-no_slash : (text : List ℕ) → AllByRecursion (Lacks 47) (parts text)
parts-no_slash [] = (tt, tt)
parts-no_slash (x ∷ xs) =
    cond_both (x == 47) ([] ∷ parts xs) (onto_first x (parts xs)) (λ ps. AllByRecursion (Lacks 47) ps)
    (λ e. (tt, parts-no_slash xs))
    (λ e. onto_first-lacks 47 x (parts xs) (eqb-false _ _ e) (parts-no_slash xs))

-- a byte that the text lacks, its parts lack
pub parts-lack : (c : ℕ) (text : List ℕ) → Lacks c text → AllByRecursion (Lacks c) (parts text)
parts-lack c [] h = (tt, tt)
parts-lack c (x ∷ xs) h =
    cond_both (x == 47) ([] ∷ parts xs) (onto_first x (parts xs)) (λ ps. AllByRecursion (Lacks c) ps)
    (λ e. (tt, parts-lack c xs h.1))
    (λ e. onto_first-lacks c x (parts xs) h.0 (parts-lack c xs h.1))

-- a text without a slash is one part
pub parts-name : (name : List ℕ) → Lacks 47 name → parts name ≡ name ∷ []
parts-name [] h = refl
parts-name (x ∷ xs) h = rw (ne_eqb x 47 h.0, parts-name xs h.1) refl

pub parts-name_on : (name rest : List ℕ) → Lacks 47 name → parts (name ++ 47 ∷ rest) ≡ name ∷ parts rest
parts-name_on [] rest h = refl
parts-name_on (x ∷ xs) rest h = rw (ne_eqb x 47 h.0, parts-name_on xs rest h.1) refl

-- ---- zero bytes

position_or_len-lacks : (text : List ℕ) → Lacks 0 text → position_or_len (λ b. b == 0) text ≡ length text
position_or_len-lacks [] h = refl
position_or_len-lacks (x ∷ xs) h = rw (ne_eqb x 0 h.0) (let rest = position_or_len-lacks xs h.1 in omega arith)

pub no_zero : (text : List ℕ) → Lacks 0 text → position (λ b. b == 0) text ≡ None
no_zero text h = rw (position_or_len-lacks text h, nat_lt-itself (length text)) refl

lacks_from : (text : List ℕ) → length text ≤ position_or_len (λ b. b == 0) text → Lacks 0 text
lacks_from [] h = tt
lacks_from (x ∷ xs) h =
    elim (cases_Bool (x == 0)) [
      | inl t ↦ let g = rw t at h in absurd (omega arith)
      | inr f ↦ let g = rw f at h in (eqb-false _ _ f, lacks_from xs (omega arith))
    ]

without_zero-none : (o : Option ℕ) → without_zero o ≡ Ok tt → o ≡ None
without_zero-none None e = refl
without_zero-none (Some at) e = absurd (cc e)

-- a text that is checked has no zero byte
pub Lacks-from_checked : (text : List ℕ) → checked text ≡ Ok tt → Lacks 0 text
unfolding checked
Lacks-from_checked text e =
    elim (cond-cases (slice_index text 0 == 47) (Err Absolute) (without_zero (position (λ b. b == 0) text)) (Ok tt) e) [
      | inl p ↦ absurd (cc (p.1))
      | inr p ↦
          let none = without_zero-none (position (λ b. b == 0) text) p.1 in
          let past = cond-None (nat_lt (position_or_len (λ b. b == 0) text) (length text)) (position_or_len (λ b. b == 0) text) none in
          lacks_from text (ltb-false _ _ past)
    ]
