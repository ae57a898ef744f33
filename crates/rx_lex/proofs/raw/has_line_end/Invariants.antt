use Rattle.std.proofs.Common.{length, ◌≡◌, ◌≤◌, [], ◌∷◌, take}
use Rattle.rx_lex.specs.Letters.{letters_at}
use Rattle.rx_lex.specs.Directives.{contains}
use Rattle.rx_lex.proofs.raw.has_line_end.Given as goal

abbrev pub invariant-loop-left : goal.invariant-loop-left
invariant-loop-left l = record {
  same : contains (10 ∷ []) (take l.count (letters_at l.text l.from)) ≡ contains (10 ∷ []) (take l.left (letters_at l.text l.at));
  within : l.at ≤ length l.text;
}

abbrev pub decreases-loop-left : goal.decreases-loop-left
decreases-loop-left l = l.left
