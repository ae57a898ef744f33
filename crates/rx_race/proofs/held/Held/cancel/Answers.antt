-- The cancel pass wasn't used, so this is the first cancel.
use Rattle.rx_race.proofs.LockLemmas.{locked-cancel}
use Rattle.rx_race.proofs.held.Held.cancel.Goals as goal

pub invariant_of-self : goal.invariant_of-self
invariant_of-self g c =
    let was = c.self.inside in
    let unused = rw c.requires at c.check.ensures.agrees in
    rw (c.cancel-verdict.ensures.step, c.write.ensures.desk, c.check.ensures.desk)
    (rw (c.check.ensures.ticket, c.requires, c.cancel-verdict.ensures.verdict)
    (locked-cancel g.K.Contest.plan was.race was.desk c.self.invariant unused))
