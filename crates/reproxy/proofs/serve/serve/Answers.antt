use Rattle.reproxy.proofs.ServeLemmas.{serves-made}
use Rattle.reproxy.proofs.serve.serve.Goals as goal

pub returns-clause-served : goal.returns-clause-served
returns-clause-served g c =
    serves-made _ _ _ c.args.words.now c.options_in-options.result _ _ c.in_ok-desk.desk _ _ _ _ _ c.options_in-options.ensures c.in_ok-desk.ensures
    c.run_proxy.ensures.sessions c.run_proxy.ensures.core
    c.run_proxy.ensures.legal c.run_proxy.ensures.status
