use Rattle.std.proofs.Common.{length, ◌-◌, List, [], ◌∷◌}
use Rattle.rx_lex.specs.Letters.{Letter, ReadsSame}
use Rattle.rx_lex.specs.Directives.{contains}
use Rattle.rx_lex.specs.Literal.{line_front}
use Rattle.rx_lex.proofs.literal.has_comment.Given as goal

abbrev pub invariant-loop-byte : goal.invariant-loop-byte
invariant-loop-byte l = ReadsSame (λ (ls : List Letter). contains (47 ∷ 42 ∷ []) (line_front ls)) l.text l.from l.at

abbrev pub decreases-loop-byte : goal.decreases-loop-byte
decreases-loop-byte l = length l.text - l.at
