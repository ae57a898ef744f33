use Rattle.std.proofs.Common.{length, ◌-◌}
use Rattle.rx_lex.specs.Letters.{ReadsSame}
use Rattle.rx_lex.specs.Pieces.{behind_number}
use Rattle.rx_lex.proofs.number.number_end.Given as goal

abbrev pub invariant-loop-next : goal.invariant-loop-next
invariant-loop-next l = ReadsSame behind_number l.text l.from l.at

abbrev pub decreases-loop-next : goal.decreases-loop-next
decreases-loop-next l = length l.text - l.at
