use Rattle.std.proofs.Common.{length, ◌-◌, ◌≡◌, ◌≤◌, ◌++◌}
use Rattle.rx_lex.specs.Letters.{letters_at}
use Rattle.rx_lex.specs.Header.{header_bytes}
use Rattle.rx_lex.proofs.header.header_bytes.Given as goal

abbrev pub invariant-loop-byte : goal.invariant-loop-byte
invariant-loop-byte l = record {
  spelled : l.name.items ++ header_bytes l.close (letters_at l.text l.at) ≡ header_bytes l.close (letters_at l.text l.from);
  within : l.at ≤ length l.text;
}

abbrev pub decreases-loop-byte : goal.decreases-loop-byte
decreases-loop-byte l = length l.text - l.at
