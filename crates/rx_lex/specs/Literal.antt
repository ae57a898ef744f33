-- What the code reads of a literal that isn't raw.
use Rattle.std.specs.Prelude.{◌==◌, if◌then◌else◌, List, [], ◌∷◌}
use Rattle.rx_lex.specs.Letters.{Letter}

-- the letters before the line's end
abbrev pub line_front : List Letter → List Letter
line_front [] = []
line_front (l ∷ ls) = if l.byte == 10 then [] else l ∷ line_front ls
