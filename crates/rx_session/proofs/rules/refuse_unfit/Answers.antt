use Rattle.std.proofs.Common.{sym, ◌∙◌}
use Rattle.rx_session.proofs.RuleLemmas.{timeout_fits}
use Rattle.rx_session.proofs.rules.refuse_unfit.Goals as goal

pub returns-in-None-clause-timeout : goal.returns-in-None-clause-timeout
returns-in-None-clause-timeout c = timeout_fits c.args.raw.now (sym c.in_ok-number.ensures ∙ c.in-None.is)
