-- Words for the code's search of what makes a file hard anywhere.
use Rattle.std.specs.Prelude.{ℕ, Bool, false, ◌==◌, ◌&&◌, ◌||◌, List, [], ◌∷◌, codes}
use Rattle.rx_lex.specs.Letters.{Letter, begins}

-- one of the three words begins with this byte
abbrev pub word_here : ℕ → List Letter → Bool
word_here b ls = (b == 46 && begins (codes "incbin") ls) || (b == 63 && (begins (codes "?=") ls || begins (codes "?/") ls))

-- one of the three words stands in the letters
abbrev pub has_word : List Letter → Bool
has_word [] = false
has_word (l ∷ ls) = word_here l.byte ls || has_word ls
