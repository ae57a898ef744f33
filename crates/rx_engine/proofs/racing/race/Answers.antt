use Rattle.std.proofs.Common.{refl}
use Rattle.rx_engine.specs.Attempts.{whole}
use Rattle.rx_engine.proofs.AttemptLemmas.{all-raced}
use Rattle.rx_engine.proofs.racing.race.Goals as goal

pub returns-clause-raced : goal.returns-clause-raced
returns-clause-raced g c =
    all-raced _ _ _ _ _ _ _ _ _ c.args.parts _ c.args.job.now.gathered.now c.args.job.now.accept_cached g.K.Contest.plan
    (whole c.run_watched-near.result.0.end) (whole c.run_watched-near.result.1.end) c.run_watched-near.result.0.ticket c.run_watched-near.result.1.ticket
    c.run_watched-near.result.2.ticket.slip _
    c.requires.plan c.run_watched-near.ensures.near c.run_watched-near.ensures.far c.close-local.ensures.told
    (rw (c.slip.ensures, c.slip-2.ensures, c.slip-3.ensures, c.close-local.ensures.local, c.close-local.ensures.remote, c.close-local.ensures.cancel) refl)

pub returns-clause-heard : goal.returns-clause-heard
returns-clause-heard g c =
    rw (c.slip-3.ensures, c.close-local.ensures.cancel) c.run_watched-near.ensures.listened.listens
