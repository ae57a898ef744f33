use Rattle.std.proofs.Common.{length, ◌-◌, ◌≡◌, ◌≤◌, drop}
use Rattle.rx_lex.specs.Letters.{splice_rest}
use Rattle.rx_lex.proofs.LetterLemmas.{added}
use Rattle.rx_lex.proofs.letters.splice_len.Given as goal

abbrev pub invariant-loop-end : goal.invariant-loop-end
invariant-loop-end l = record {
  seen : splice_rest (drop l.at l.text) ≡ added (l.end - l.at) (splice_rest (drop l.end l.text));
  above : l.at ≤ l.end;
  within : l.end ≤ length l.text;
}

abbrev pub decreases-loop-end : goal.decreases-loop-end
decreases-loop-end l = length l.text - l.end
