-- One call after another.
use Rattle.std.proofs.Common.{◌≡◌, ◌≢◌, Result, Ok, Err, refl}
use Rattle.rx_base.specs.Results.{◌>>=◌}

-- where both calls together answer a value, the first answers one, and the second goes on from it
pub bind_ok : {A B E : Type 0} (r : Result A E) (f : A → Result B E) (y : B) → (r >>= f) ≡ Ok y → (x : A) × (r ≡ Ok x) × (f x ≡ Ok y)
bind_ok (Ok x) f y e = (x, refl, e)
bind_ok (Err d) f y e = absurd (cc e)

-- where the first call fails but not for want of memory, so do both
pub bind_err : {A B E : Type 0} (no_memory e : E) (r : Result A E) (f : A → Result B E) → (e ≢ no_memory → r ≡ Err e) → e ≢ no_memory → (r >>= f) ≡ Err e
bind_err no_memory e r f h other = rw (h other) refl
