use Rattle.std.proofs.Common.{◌≡◌, Err, None, Ok, Some}
use Rattle.std.proofs.lemmas.Result.{err_from_is_err_and}
use Rattle.rx_local.specs.Limits.{passed_of}
use Rattle.rx_local.proofs.Ends.{ends-past, ends-ready, ends-stopped, ends-unready}
use Rattle.rx_local.proofs.LimitLemmas.{passes-none}
use Rattle.rx_local.proofs.local.run_on.Goals as goal

pub returns-in_err-prepare-clause-ended : goal.returns-in_err-prepare-clause-ended
returns-in_err-prepare-clause-ended g c =
    let p = err_from_is_err_and c.from_residual.result c.from_residual.ensures.1 in
    let h = c.in_err-prepare.ensures in
    rw (p.1, p.2) (ends-unready _ _ _ _ _ _ _ _ _ c.requires.no_runs h.err h.before h.runs)

pub returns-in-Some-clause-ended : goal.returns-in-Some-clause-ended
returns-in-Some-clause-ended g c =
    ends-stopped _ _ _ _ _ _ _ _ _ c.requires c.in_ok-prepare.ensures.runs c.in_ok-prepare.ensures.ok

pub returns-in_err-outcome-clause-ended : goal.returns-in_err-outcome-clause-ended
returns-in_err-outcome-clause-ended g c =
    let p = err_from_is_err_and c.from_residual-in_err-outcome.result c.from_residual-in_err-outcome.ensures.1 in
    let h = c.in_err-outcome.ensures in
    rw (p.1, p.2)
    (ends-ready _ _ _ _ _ _ _ _ _ c.requires c.in_ok-prepare.ensures.runs c.in_ok-prepare.ensures.ok _ _ (Err _)
    tt tt tt h.cause h.not_run h.ended h.once h.missing h.lacks)

pub returns-in-Some-passed_limit-clause-ended : goal.returns-in-Some-passed_limit-clause-ended
returns-in-Some-passed_limit-clause-ended g c =
    let h = c.in_ok-outcome.ensures in
    let past : passed_of c.in_ok-outcome.outcome ≡ Some c.in-Some-passed_limit.field-0 = cc (c.passed_limit.ensures, c.in-Some-passed_limit.is) in
    let ready = ends-ready _ _ _ _ _ _ _ _ _ c.requires c.in_ok-prepare.ensures.runs c.in_ok-prepare.ensures.ok 0 0 (Ok _)
    h.clean h.ran h.taken tt tt tt tt tt tt in
    ends-past _ _ _ _ _ _ _ _ c.in-Some-passed_limit.field-0 ready h.proper past

pub returns-clause-ended : goal.returns-clause-ended
returns-clause-ended g c =
    let h = c.in_ok-outcome.ensures in
    ends-ready _ _ _ _ _ _ _ _ _ c.requires c.in_ok-prepare.ensures.runs c.in_ok-prepare.ensures.ok 0 0 (Ok _)
    h.clean h.ran h.taken tt tt tt tt tt tt

pub returns-clause-within : goal.returns-clause-within
returns-clause-within g c =
    let none : passed_of c.in_ok-outcome.outcome ≡ None = cc (c.passed_limit.ensures, c.in_default-passed_limit.is) in
    passes-none _ none
