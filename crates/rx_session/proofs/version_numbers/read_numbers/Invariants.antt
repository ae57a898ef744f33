use Rattle.rx_session.proofs.NumberReading.{IsReading}
use Rattle.rx_session.proofs.version_numbers.read_numbers.Given as goal

abbrev pub invariant-loop-byte : goal.invariant-loop-byte
invariant-loop-byte l = IsReading l.text l.byte-index l.numbers.items l.number
