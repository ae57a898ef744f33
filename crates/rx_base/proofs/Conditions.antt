-- What an `if` answered, and which way it went.
use Rattle.std.proofs.Common.{◌≡◌, ℕ, ◌⊎◌, inl, inr, Bool, true, false, cond, Some, None, nat_lt, refl, sym, arith}
use Rattle.std.proofs.lemmas.Bool.{le-ltb}
use Rattle.std.proofs.lemmas.Option.{none-some}

pub cond-cases : {A : Type 0} (t : Bool) (x y z : A) → cond t x y ≡ z → ((t ≡ true) × (x ≡ z)) ⊎ ((t ≡ false) × (y ≡ z))
cond-cases true x y z e = inl (refl, e)
cond-cases false x y z e = inr (refl, e)

-- nothing where the test passes would give something
pub cond-None : {A : Type 0} (t : Bool) (x : A) → cond t (Some x) None ≡ None → t ≡ false
cond-None true x e = absurd (none-some x (sym e))
cond-None false x e = refl

-- no number is below itself
pub nat_lt-itself : (n : ℕ) → nat_lt n n ≡ false
nat_lt-itself n = le-ltb n n (omega arith)
