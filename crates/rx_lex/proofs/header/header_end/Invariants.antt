use Rattle.std.proofs.Common.{length, ◌-◌}
use Rattle.rx_lex.specs.Letters.{ReadsSame}
use Rattle.rx_lex.specs.Pieces.{behind_header}
use Rattle.rx_lex.proofs.header.header_end.Given as goal

abbrev pub invariant-loop-byte : goal.invariant-loop-byte
invariant-loop-byte l = ReadsSame (behind_header l.close) l.text l.from l.at

abbrev pub decreases-loop-byte : goal.decreases-loop-byte
decreases-loop-byte l = length l.text - l.at
