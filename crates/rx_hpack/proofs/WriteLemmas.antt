-- Writing a number in groups, and what is written as the relation has it.
use Rattle.std.proofs.Common.{◌≡◌, ℕ, ◌+◌, ◌*◌, ◌/◌, ◌%◌, ◌^◌, ◌<◌, ◌≤◌, zero, suc, List, [], ◌∷◌, ◌++◌, refl, sym, ap, ◌∙◌, append_assoc, arith}
use Rattle.std.proofs.lemmas.Bool.{lt-ltb, le-ltb}
use Rattle.rx_hpack.specs.Integer.{groups_of}

-- what so many groups before the last and the last can hold
abbrev pub limit : ℕ → ℕ
limit zero = 128
limit (suc more) = 128 * limit more

pub groups_last : (more n : ℕ) → n < 128 → groups_of more n ≡ n ∷ []
unfolding groups_of
groups_last zero n lt = refl
groups_last (suc more) n lt = rw (lt-ltb n 128 lt) refl

pub groups_more : (more n : ℕ) → 128 ≤ n → groups_of (suc more) n ≡ (n % 128 + 128) ∷ groups_of more (n / 128)
unfolding groups_of
groups_more more n le = rw (le-ltb n 128 le) refl

-- what was written, and the number that is left
pub record Writes (old : List ℕ) (n : ℕ) (out : List ℕ) (left : ℕ) : Type 0 where
  pub more : ℕ
  pub fits : left < limit more
  pub same : out ++ groups_of more left ≡ old ++ groups_of 4 n

pub starts : (old : List ℕ) (n : ℕ) → n < 2 ^ 32 → Writes old n old n
starts old n lt = record { more = 4; fits = omega (arith, lt); same = refl }

steps : (old : List ℕ) (n : ℕ) (out : List ℕ) (left more : ℕ) → 128 ≤ left → left < limit more → out ++ groups_of more left ≡ old ++ groups_of 4 n → Writes old n (out ++ (left % 128 + 128) ∷ []) (left / 128)
steps old n out left zero le fits same = absurd (omega (arith, le, fits))
steps old n out left (suc more) le fits same =
    record {
      more = more;
      fits = omega (arith, fits);
      same = append_assoc out ((left % 128 + 128) ∷ []) (groups_of more (left / 128)) ∙ ap (λ (w : List ℕ). out ++ w) (sym (groups_more more left le)) ∙ same;
    }

pub goes_on : (old : List ℕ) (n : ℕ) (out new : List ℕ) (left : ℕ) → 128 ≤ left → new ≡ out ++ (left % 128 + 128) ∷ [] → Writes old n out left → Writes old n new (left / 128)
goes_on old n out new left le is so_far = rw is (steps old n out left so_far.more le so_far.fits so_far.same)

pub ends : (old : List ℕ) (n : ℕ) (out new : List ℕ) (left : ℕ) → left < 128 → new ≡ out ++ left ∷ [] → Writes old n out left → new ≡ old ++ groups_of 4 n
ends old n out new left lt is so_far = is ∙ ap (λ (w : List ℕ). out ++ w) (sym (groups_last so_far.more left lt)) ∙ so_far.same
