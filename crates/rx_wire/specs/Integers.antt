-- Signed integers in varints (Protocol Buffers, Encoding, "Signed Integers").
use Rattle.std.specs.Prelude.{ℕ, ℤ, ◌%◌, ◌^◌}
use Rattle.std.specs.Int.{w32, w64, cast_signed, cast_unsigned}

-- an int32 in 64 bits, in two's complement
abbrev pub sign_extended : ℤ → ℕ
sign_extended value = cast_unsigned w64 value

-- the int32 in the low 32 bits
abbrev pub int32_of : ℕ → ℤ
int32_of value = cast_signed w32 (value % 2 ^ 32)
