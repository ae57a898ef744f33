-- What the code reads of a header name.
use Rattle.std.specs.Prelude.{not, ℕ, ◌==◌, if◌then◌else◌, List}
use Rattle.rx_lex.specs.Letters.{Letter}
use Rattle.rx_lex.specs.Pieces.{all_at_front}

-- the byte that closes a header name
abbrev pub closing : ℕ → ℕ
closing first = if first == 60 then 62 else 34

-- the name in a header name that this byte closes
abbrev pub header_bytes : ℕ → List Letter → List ℕ
header_bytes close ls = all_at_front (λ b. not (b == close)) ls
