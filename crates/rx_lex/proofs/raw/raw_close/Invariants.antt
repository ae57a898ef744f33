use Rattle.std.proofs.Common.{length, ◌-◌, ◌+◌, ◌≡◌, ◌≤◌, [], ◌∷◌, ◌++◌}
use Rattle.rx_lex.specs.Letters.{letters_at}
use Rattle.rx_lex.specs.Pieces.{behind_text}
use Rattle.rx_lex.proofs.raw.raw_close.Given as goal

abbrev pub invariant-loop-byte : goal.invariant-loop-byte
invariant-loop-byte l = record {
  same : behind_text ((41 ∷ l.delimiter) ++ (34 ∷ [])) (letters_at l.text l.from) ≡ behind_text ((41 ∷ l.delimiter) ++ (34 ∷ [])) (letters_at l.text l.at);
  count : l.passed + length (letters_at l.text l.at) ≡ length (letters_at l.text l.from);
  on : l.from + l.passed ≤ l.at;
  within : l.at ≤ length l.text;
}

abbrev pub decreases-loop-byte : goal.decreases-loop-byte
decreases-loop-byte l = length l.text - l.at
