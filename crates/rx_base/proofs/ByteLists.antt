-- Lists of bytes that are equal or differ.
use Rattle.std.proofs.Common.{◌≡◌, ◌≢◌, ◌==◌, ℕ, false, true, List, [], ◌∷◌, length, refl, sym, ◌∙◌, arith, true≢false}
use Rattle.std.specs.Str.{bytes_eq}
use Rattle.std.proofs.lemmas.Bool.{false_from_ne_true, ne_eqb}
use Rattle.std.proofs.lemmas.Slice.Eq.{bytes_eq-Decides}

pub bytes_eq-itself : (xs : List ℕ) → bytes_eq xs xs ≡ true
bytes_eq-itself xs = (bytes_eq-Decides xs xs).1 refl

pub bytes_eq-other : (xs ys : List ℕ) → xs ≢ ys → bytes_eq xs ys ≡ false
bytes_eq-other xs ys ne = false_from_ne_true (bytes_eq xs ys) (λ e. ne ((bytes_eq-Decides xs ys).0 e))

pub other_bytes : (xs ys : List ℕ) → bytes_eq xs ys ≡ false → xs ≢ ys
other_bytes xs ys e same = true≢false (sym ((bytes_eq-Decides xs ys).1 same) ∙ e)

-- a list that isn't empty has a byte
pub some_bytes : (bytes : List ℕ) → bytes ≢ [] → (length bytes == 0) ≡ false
some_bytes [] ne = absurd (ne refl)
some_bytes (b ∷ bs) ne = ne_eqb (length (b ∷ bs)) 0 (λ e. omega arith)
