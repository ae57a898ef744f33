use Rattle.rx_engine.specs.Attempts.{whole}
use Rattle.rx_engine.proofs.MadeLemmas.{made-raced}
use Rattle.rx_engine.proofs.attempts.make_attempts.Goals as goal

pub returns-clause-made : goal.returns-clause-made
returns-clause-made g c =
    made-raced _ c.args.job.now.gathered.now c.args.job.now.accept_cached c.args.parts c.race-raced.result.1
    (whole c.race-raced.result.0.here) (whole c.race-raced.result.0.there) c.race-raced.result.0.heard c.kept_and_won.result c.race-raced.result.0.passes
    c.race-raced.ensures.raced c.kept_and_won.ensures
