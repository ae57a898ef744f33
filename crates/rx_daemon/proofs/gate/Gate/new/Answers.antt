use Rattle.std.proofs.Common.{refl, sym}
use Rattle.rx_daemon.proofs.GateLemmas.{gate-first}
use Rattle.rx_daemon.proofs.gate.Gate.new.Goals as goal

pub invariant_of-result : goal.invariant_of-result
invariant_of-result g c =
    let r = c.requires in
    (rw r.rights (gate-first _ _ _ _ g.F.Front.gives _ g.K.Desks.gives _ _ _ _ _ (sym r.coming) (sym r.faults) (sym r.given) r.kinds (rw r.rights at r.one_part) r.numbers r.taken), sym r.taken)
