-- Texts by their first bytes, and by a byte in them.
use Rattle.std.specs.Prelude.{ℕ, List, Bool, Option, Some, None, length, drop, nat_eq, nat_lt, ◌==◌, if◌then◌else◌}
use Rattle.std.specs.List.{after_first, before_first, position_or_len, starts_with}

abbrev pub begins : List ℕ → List ℕ → Bool
begins text front = starts_with nat_eq text front

-- what stands behind a front, where a text begins with it
abbrev pub stripped : List ℕ → List ℕ → Option (List ℕ)
stripped front text = if begins text front then Some (drop (length front) text) else None

-- a text has a byte, and what stands before the first and after it
abbrev pub has : ℕ → List ℕ → Bool
has byte text = nat_lt (position_or_len (λ b. b == byte) text) (length text)

abbrev pub before : ℕ → List ℕ → List ℕ
before byte text = before_first (λ b. b == byte) text

abbrev pub after : ℕ → List ℕ → List ℕ
after byte text = after_first (λ b. b == byte) text

abbrev pub equals_sign : ℕ
equals_sign = 61
