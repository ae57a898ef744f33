use Rattle.rx_h2conn.proofs.DueLemmas.{IsTelling}
use Rattle.rx_h2conn.proofs.streams.tell.Given as goal

abbrev pub invariant-loop-at : goal.invariant-loop-at
invariant-loop-at l = IsTelling l.fn.streams l.streams l.at
