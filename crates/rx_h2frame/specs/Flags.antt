-- The bits of a frame's flags.
use Rattle.std.specs.Prelude.{ℕ, Bool, not, ◌==◌, bit_and}

abbrev pub is_set : ℕ → ℕ → Bool
is_set flags bit = not (bit_and flags bit == 0)
