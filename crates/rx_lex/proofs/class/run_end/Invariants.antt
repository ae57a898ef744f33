use Rattle.std.proofs.Common.{length, ◌-◌}
use Rattle.rx_lex.specs.Letters.{ReadsSame}
use Rattle.rx_lex.specs.Pieces.{behind_all}
use Rattle.rx_lex.specs.Class.{is_in}
use Rattle.rx_lex.proofs.class.run_end.Given as goal

abbrev pub invariant-loop-byte : goal.invariant-loop-byte
invariant-loop-byte l = ReadsSame (behind_all (is_in l.class)) l.text l.from l.at

abbrev pub decreases-loop-byte : goal.decreases-loop-byte
decreases-loop-byte l = length l.text - l.at
