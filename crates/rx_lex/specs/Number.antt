-- One step of a number, against the number.
use Rattle.std.specs.Prelude.{ℕ, List, Option, None, Some, ◌≡◌, ◌<◌}
use Rattle.rx_lex.specs.Letters.{ReadsSame, letters_at}
use Rattle.rx_lex.specs.Pieces.{behind_number}

-- From `at` a number goes on to a place behind it, or it ends at `at`.
abbrev pub StepsTo : List ℕ → ℕ → Option ℕ → Type 0
StepsTo text at None = behind_number (letters_at text at) ≡ letters_at text at
StepsTo text at (Some end) = (at < end) × ReadsSame behind_number text at end
