use Rattle.std.proofs.Common.{length, ◌-◌, ◌+◌, ◌≡◌, ◌≤◌, ◌++◌, take}
use Rattle.rx_lex.specs.Letters.{letters_at}
use Rattle.rx_lex.specs.Pieces.{all_at_front, behind_all, is_delimiter}
use Rattle.rx_lex.proofs.raw.read_delimiter.Given as goal

abbrev pub invariant-loop-byte : goal.invariant-loop-byte
invariant-loop-byte l = record {
  taken : take l.len l.bytes ++ all_at_front is_delimiter (letters_at l.text l.at) ≡ all_at_front is_delimiter (letters_at l.text l.from);
  rest : behind_all is_delimiter (letters_at l.text l.from) ≡ behind_all is_delimiter (letters_at l.text l.at);
  count : l.len + length (letters_at l.text l.at) ≡ length (letters_at l.text l.from);
  short : l.len ≤ 16;
  room : length l.bytes ≡ 16;
  on : l.from + l.len ≤ l.at;
  within : l.at ≤ length l.text;
}

abbrev pub decreases-loop-byte : goal.decreases-loop-byte
decreases-loop-byte l = length l.text - l.at
