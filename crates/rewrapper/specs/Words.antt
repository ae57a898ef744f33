-- The words of the command line that ask for help or for the version.
use Rattle.std.specs.Prelude.{ℕ, Bool, false, List, [], ◌∷◌}
use Rattle.std.specs.Str.{bytes_eq}

-- the words are this one alone
abbrev pub are_alone : List ℕ → List (List ℕ) → Bool
are_alone alone (word ∷ []) = bytes_eq word alone
are_alone alone words = false
