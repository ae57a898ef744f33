use Rattle.rx_toyfarm.proofs.LinkLemmas.{IsUsed}
use Rattle.rx_toyfarm.proofs.connection.answer.Given as goal

abbrev pub invariant-loop : goal.invariant-loop
invariant-loop g l = IsUsed (g.L.Link.rule l.fn.link) (g.L.Link.rule l.link) (g.L.Link.faults l.fn.link) (g.L.Link.faults l.link)
