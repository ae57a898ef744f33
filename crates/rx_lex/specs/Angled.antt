-- A part of a text from whose places no header name by `<` ends.
use Rattle.std.specs.Prelude.{ℕ, ◌≡◌, ◌≤◌, ◌<◌, List, None}
use Rattle.rx_lex.specs.Letters.{letters_at}
use Rattle.rx_lex.specs.Pieces.{behind_header}

abbrev pub IsBarren : List ℕ → ℕ → ℕ → Type 0
IsBarren text from to = (p : ℕ) → from ≤ p → p < to → behind_header 62 (letters_at text p) ≡ None
