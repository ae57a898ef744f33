use Rattle.std.proofs.Common.{length, drop, ◌≡◌, ◌≤◌, ◌+◌}
use Rattle.rx_lex.specs.Letters.{letters_at, begins}
use Rattle.rx_lex.proofs.letters.begins.Given as goal

abbrev pub invariant-loop-byte : goal.invariant-loop-byte
invariant-loop-byte l = record {
  same : begins l.wanted (letters_at l.text l.from) ≡ begins (drop l.byte-index l.wanted) (letters_at l.text l.at);
  rest : letters_at l.text l.at ≡ drop l.byte-index (letters_at l.text l.from);
  on : l.from + l.byte-index ≤ l.at;
  within : l.at ≤ length l.text;
}
