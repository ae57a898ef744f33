-- A race in which nothing happened yet is locked by passes that weren't used.
use Rattle.rx_race.proofs.LockLemmas.{locked-open}
use Rattle.rx_race.proofs.held.Held.open.Goals as goal

pub invariant_of-result : goal.invariant_of-result
invariant_of-result g c = rw (c.requires.race, c.requires.desk) (locked-open g.K.Contest.plan)
