use Rattle.std.proofs.Common.{length, ◌-◌, ◌≡◌, ◌≤◌, false}
use Rattle.rx_lex.specs.Letters.{letters_at}
use Rattle.rx_lex.specs.Pieces.{literal}
use Rattle.rx_lex.proofs.literal.literal_end.Given as goal

abbrev pub invariant-loop-byte : goal.invariant-loop-byte
invariant-loop-byte l = record {
  same : literal l.quote false (letters_at l.text l.from) ≡ literal l.quote l.escaped (letters_at l.text l.at);
  on : l.from ≤ l.at;
  within : l.at ≤ length l.text;
}

abbrev pub decreases-loop-byte : goal.decreases-loop-byte
decreases-loop-byte l = length l.text - l.at
