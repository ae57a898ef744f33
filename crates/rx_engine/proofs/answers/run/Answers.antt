use Rattle.rx_engine.proofs.AttemptLemmas.{attempts-later}
use Rattle.rx_engine.proofs.answers.run.Goals as goal

pub returns-clause-later : goal.returns-clause-later
returns-clause-later g c =
    let made = c.make_attempts.ensures.made in
    attempts-later _ _ _ c.args.prepared.gathered c.args.prepared.accept_cached made.attempts made.each
