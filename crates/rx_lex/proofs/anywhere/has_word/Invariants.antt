use Rattle.std.proofs.Common.{length, ◌-◌}
use Rattle.rx_lex.specs.Letters.{ReadsSame}
use Rattle.rx_lex.specs.Anywhere.{has_word}
use Rattle.rx_lex.proofs.anywhere.has_word.Given as goal

abbrev pub invariant-loop-byte : goal.invariant-loop-byte
invariant-loop-byte l = ReadsSame has_word l.text l.from l.at

abbrev pub decreases-loop-byte : goal.decreases-loop-byte
decreases-loop-byte l = length l.text - l.at
