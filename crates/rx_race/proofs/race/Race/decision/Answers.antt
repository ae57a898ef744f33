-- Each event of a race was a step, and each step keeps a race sound.
use Rattle.rx_race.specs.Standings.{fresh}
use Rattle.rx_race.proofs.SoundLemmas.{sound-replay}
use Rattle.rx_race.proofs.SoundStarts.{sound-fresh}
use Rattle.rx_race.proofs.race.Race.decision.Goals as goal

pub returns-clause-sound : goal.returns-clause-sound
returns-clause-sound c =
    let plan = c.self.inside.standing.plan in
    rw (← c.self.view_is)
    (sound-replay (fresh plan) c.self.inside.events.items (sound-fresh plan) c.self.invariant.steps)
