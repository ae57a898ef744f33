-- Varints: numbers in groups of seven bits, low ones first (Protocol Buffers, Encoding, "Base 128 Varints").
use Rattle.std.specs.Prelude.{◌≡◌, ℕ, zero, suc, ◌+◌, ◌-◌, ◌*◌, ◌/◌, ◌%◌, ◌^◌, ◌<◌, ◌≤◌, List, [], ◌∷◌, length, drop, Result, Ok, Err, nat_lt, nat_le, if◌then◌else◌}
use Rattle.rx_base.specs.Results.{◌>>=◌}
use Rattle.rx_wire.specs.declared.faults.WireFault.{WireFault}
use Rattle.rx_wire.specs.declared.faults.WireFault.TheVariants.{Truncated, VarintTooLong}

-- The bytes spell the number: each byte but the last has its high bit set, and the bytes after it spell the rest.
abbrev pub Spells : List ℕ → ℕ → Type 0
Spells [] n = ⊥
Spells (b ∷ []) n = (b < 128) × (n ≡ b)
Spells (b ∷ c ∷ bytes) n = (128 ≤ b) × (high : ℕ) × (n + 128 ≡ b + 128 * high) × Spells (c ∷ bytes) high

-- A number of 64 bits in at most ten bytes. It may have more than one spelling.
pub record IsVarint (bytes : List ℕ) (n : ℕ) : Type 0 where
  pub spelled : Spells bytes n
  pub short : length bytes ≤ 10
  pub fits : n < 2 ^ 64

-- The number at the front, and how many bytes it takes: the first one, and up to k more.
unfoldable pub varint_in : ℕ → ℕ → List ℕ → Result (ℕ × ℕ) WireFault
varint_in at k [] = Err (Truncated at)
varint_in at zero (b ∷ bytes) = if nat_le b 1 then Ok (b, 1) else Err (VarintTooLong at)
varint_in at (suc k) (b ∷ bytes) =
    if nat_lt b 128 then Ok (b, 1)
    else do
      high ← varint_in at k bytes
      Ok (b - 128 + 128 * high.0, high.1 + 1)

-- the number at an offset, and the offset behind it
unfoldable pub varint_at : List ℕ → ℕ → Result (ℕ × ℕ) WireFault
varint_at bytes at = do
  found ← varint_in at 9 (drop at bytes)
  Ok (found.0, at + found.1)

-- the fewest bytes that spell the number, of at most k more than one
unfoldable pub groups : ℕ → ℕ → List ℕ
groups zero n = n ∷ []
groups (suc k) n = if nat_lt n 128 then n ∷ [] else (n % 128 + 128) ∷ groups k (n / 128)

-- the shortest spelling of a number of 64 bits
unfoldable pub shortest : ℕ → List ℕ
shortest n = groups 9 n
