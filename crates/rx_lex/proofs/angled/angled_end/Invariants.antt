use Rattle.std.proofs.Common.{length, ◌-◌, ◌≤◌}
use Rattle.rx_lex.proofs.AngledLemmas.{Searched}
use Rattle.rx_lex.proofs.angled.angled_end.Given as goal

abbrev pub invariant-loop-at : goal.invariant-loop-at
invariant-loop-at l = record {
  searched : Searched l.text l.from l.at;
  within : l.at ≤ length l.text;
}

abbrev pub decreases-loop-at : goal.decreases-loop-at
decreases-loop-at l = length l.text - l.at
