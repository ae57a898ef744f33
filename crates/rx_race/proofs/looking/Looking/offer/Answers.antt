-- What was seen, the pass says.
use Rattle.rx_race.proofs.SlipLemmas.{looked-late, looked-seen}
use Rattle.rx_race.proofs.looking.Looking.offer.Goals as goal

pub returns-clause-seen : goal.returns-clause-seen
returns-clause-seen g c =
    rw (← c.self.view_is) (looked-seen _ _ c.self.inside.seen c.self.invariant c.offer.ensures.seen)

pub returns-clause-late : goal.returns-clause-late
returns-clause-late g c =
    rw (← c.self.view_is) (looked-late _ _ c.self.inside.seen c.self.invariant c.offer.ensures.late)
