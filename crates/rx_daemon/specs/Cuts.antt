-- Texts by a byte in them, and by their first bytes.
use Rattle.std.specs.Prelude.{ℕ, List, Bool, length, nat_eq, nat_lt, ◌==◌}
use Rattle.std.specs.List.{after_first, before_first, position_or_len, starts_with}

abbrev pub begins : List ℕ → List ℕ → Bool
begins text front = starts_with nat_eq text front

-- a text has a byte, and what stands before the first and after it
abbrev pub has : ℕ → List ℕ → Bool
has byte text = nat_lt (position_or_len (λ b. b == byte) text) (length text)

abbrev pub before : ℕ → List ℕ → List ℕ
before byte text = before_first (λ b. b == byte) text

abbrev pub after : ℕ → List ℕ → List ℕ
after byte text = after_first (λ b. b == byte) text
