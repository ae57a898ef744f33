-- The classes of bytes that runs are of.
use Rattle.std.specs.Prelude.{ℕ, Bool}
use Rattle.rx_lex.specs.Letters.{is_blank}
use Rattle.rx_lex.specs.Pieces.{is_name}
use Rattle.rx_lex.specs.declared.class.Class.{Class}
use Rattle.rx_lex.specs.declared.class.Class.TheVariants.{Blank, Name}

abbrev pub is_in : Class → ℕ → Bool
is_in Blank = is_blank
is_in Name = is_name
