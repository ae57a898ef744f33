use Rattle.rx_wire.proofs.VarintLemmas.{IsReading}
use Rattle.rx_session.proofs.varints.varint_at.Given as goal

abbrev pub invariant-loop-i : goal.invariant-loop-i
invariant-loop-i l = IsReading l.bytes l.at l.i l.value l.weight
