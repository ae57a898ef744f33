-- Integers (RFC 7541 5.1): in the prefix, or a full prefix and then groups of seven bits, the least first.
use Rattle.std.specs.Prelude.{◌≡◌, ℕ, ◌+◌, ◌-◌, ◌*◌, ◌/◌, ◌%◌, ◌<◌, ◌≤◌, ◌^◌, ◌⊎◌, zero, suc, List, [], ◌∷◌, length, if◌then◌else◌, nat_lt, Result, Ok, Err}
use Rattle.rx_hpack.specs.declared.fault.HpackFault.{HpackFault}
use Rattle.rx_hpack.specs.declared.fault.HpackFault.TheVariants.{BadInteger}
use Rattle.rx_hpack.specs.Answers.{◌>>=◌}

-- The number that groups spell, of which so many may still come, and the bytes after it.
-- Where the groups above the first are past 2^25 - 1, the number is past 2^32 - 1.
unfoldable pub groups_at : ℕ → List ℕ → Result (ℕ × List ℕ) HpackFault
groups_at zero bytes = Err BadInteger
groups_at (suc left) [] = Err BadInteger
groups_at (suc left) (b ∷ bytes) =
    if nat_lt b 128 then Ok (b, bytes)
    else groups_at left bytes >>= λ high. if nat_lt 33554431 high.0 then Err BadInteger else Ok (b - 128 + 128 * high.0, high.1)

-- The integer whose prefix holds this number, and the bytes after it. full is the prefix's largest, 2^N - 1.
unfoldable pub integer_at : ℕ → ℕ → List ℕ → Result (ℕ × List ℕ) HpackFault
integer_at full prefix bytes =
    if nat_lt prefix full then Ok (prefix, bytes)
    else groups_at 5 bytes >>= λ more. if nat_lt 4294967295 (full + more.0) then Err BadInteger else Ok (full + more.0, more.1)

-- The groups that are written for a number, of which so many may come before the last.
unfoldable pub groups_of : ℕ → ℕ → List ℕ
groups_of zero n = n ∷ []
groups_of (suc more) n = if nat_lt n 128 then n ∷ [] else (n % 128 + 128) ∷ groups_of more (n / 128)

-- the bytes that are written for an integer behind the bits of a form
unfoldable pub integer_bytes : ℕ → ℕ → ℕ → List ℕ
integer_bytes full form n = if nat_lt n full then (form + n) ∷ [] else (form + full) ∷ groups_of 4 (n - full)

-- The same as a relation: each byte of the groups but the last has its high bit set, and the rest counts 128 times.
abbrev pub IsGroups : List ℕ → ℕ → Type 0
IsGroups [] n = ⊥
IsGroups (b ∷ []) n = (b < 128) × (n ≡ b)
IsGroups (b ∷ c ∷ bytes) n = (128 ≤ b) × (high : ℕ) × (n + 128 ≡ b + 128 * high) × IsGroups (c ∷ bytes) high

-- below the prefix's largest, the integer stands in the prefix, beside the bits of the form
pub record InPrefix (full form : ℕ) (bytes : List ℕ) (n : ℕ) : Type 0 where
  pub below : n < full
  pub spelled : bytes ≡ (form + n) ∷ []

-- else the prefix is full, and what the integer is above it follows
pub record BehindPrefix (full form : ℕ) (bytes : List ℕ) (n : ℕ) : Type 0 where
  pub groups : List ℕ
  pub spelled : bytes ≡ (form + full) ∷ groups
  pub above : ℕ
  pub sum : n ≡ full + above
  pub are_groups : IsGroups groups above
  pub short : length groups ≤ 5
  pub fits : n < 2 ^ 32

-- These bytes spell the integer n with a prefix whose largest number is full, behind the bits of a form.
abbrev pub IsInteger : ℕ → ℕ → List ℕ → ℕ → Type 0
IsInteger full form bytes n = InPrefix full form bytes n ⊎ BehindPrefix full form bytes n
