use Rattle.std.proofs.Common.{length, ◌≡◌, ◌≤◌, take}
use Rattle.rx_lex.specs.Letters.{Letter, letters_at}
use Rattle.rx_lex.specs.Line.{any}
use Rattle.rx_lex.proofs.raw.is_split_within.Given as goal

abbrev pub invariant-loop-left : goal.invariant-loop-left
invariant-loop-left l = record {
  same : any (λ (m : Letter). m.split) (take l.count (letters_at l.text l.from)) ≡ any (λ (m : Letter). m.split) (take l.left (letters_at l.text l.at));
  within : l.at ≤ length l.text;
}

abbrev pub decreases-loop-left : goal.decreases-loop-left
decreases-loop-left l = l.left
