use Rattle.reproxy.proofs.ServeLemmas.{serves-clients}
use Rattle.reproxy.proofs.listen.listen.Goals as goal

pub returns-clause-served : goal.returns-clause-served
returns-clause-served g c =
    let ran = c.run_in_threads.ensures in
    serves-clients _ _ _ _ _ _ _ _ _ _ _ _ ran.sessions ran.core ran.served ran.status ran.agrees ran.always
