-- Each ticket says what the desk does, and the lock what these come to.
use Rattle.rx_race.proofs.ToldLemmas.{told}
use Rattle.rx_race.proofs.held.Held.close.Goals as goal

pub returns-clause-told : goal.returns-clause-told
returns-clause-told g c =
    let was = c.self.inside in
    let first = c.check.ensures.desk in
    let second = c.check-2.ensures.desk in
    let local = rw c.requires.local at c.check.ensures.agrees in
    let remote = rw (c.requires.remote, first) at c.check-2.ensures.agrees in
    let cancel = rw (c.requires.cancel, second, first) at c.check-3.ensures.agrees in
    rw (← local, ← remote, ← cancel) (told g.K.Contest.plan was.race was.desk c.self.invariant)
