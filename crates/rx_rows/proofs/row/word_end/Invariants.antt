use Rattle.std.proofs.Common.{length, ◌-◌, ◌≤◌, List, ℕ}
use Rattle.rx_rows.specs.Words.{NoSpace}
use Rattle.rx_rows.proofs.row.word_end.Given as goal

pub record SoFar (text : List ℕ) (end : ℕ) : Type 0 where
  pub within : end ≤ length text
  pub none : NoSpace text end

abbrev pub invariant-loop-end : goal.invariant-loop-end
invariant-loop-end l = SoFar l.text l.end

abbrev pub decreases-loop-end : goal.decreases-loop-end
decreases-loop-end l = length l.text - l.end
