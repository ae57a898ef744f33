use Rattle.std.proofs.Common.{length, ◌-◌}
use Rattle.rx_session.proofs.PackedReading.{IsCheckingNumbers}
use Rattle.rx_session.proofs.packed.check_numbers.Given as goal

abbrev pub invariant-numbers : goal.invariant-numbers
invariant-numbers l = IsCheckingNumbers l.packed l.at

abbrev pub decreases-numbers : goal.decreases-numbers
decreases-numbers l = length l.packed - l.at
