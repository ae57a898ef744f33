use Rattle.std.proofs.Common.{length, ◌-◌}
use Rattle.rx_session.proofs.FaultReading.{IsReading}
use Rattle.rx_session.proofs.call_faults.read_faults.Given as goal

abbrev pub invariant-numbers : goal.invariant-numbers
invariant-numbers l = IsReading l.packed l.at l.faults

abbrev pub decreases-numbers : goal.decreases-numbers
decreases-numbers l = length l.packed - l.at
