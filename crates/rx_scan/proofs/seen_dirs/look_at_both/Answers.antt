use Rattle.std.proofs.lemmas.Result.{err_from_is_err_and}
use Rattle.rx_scan.proofs.LookSteps.{both-looked, scans-known}
use Rattle.rx_reach.proofs.ScanLemmas.{ends-join}
use Rattle.rx_scan.proofs.seen_dirs.look_at_both.Goals as goal

pub returns-clause-ok : goal.returns-clause-ok
returns-clause-ok g c = both-looked _ _ _ _ _ _ _ _ _ _ c.in_ok-look_at_each.ensures.ok c.in_ok-look_at_each-2.ensures.ok

pub returns-clause-files : goal.returns-clause-files
returns-clause-files g c = scans-known _ _ _ _ _ _ _ _ c.in_ok-look_at_each-2.ensures.ok c.in_ok-look_at_each.ensures.seen

pub returns-in_err-look_at_each-2-clause-err : goal.returns-in_err-look_at_each-2-clause-err
returns-in_err-look_at_each-2-clause-err g c =
    let p = err_from_is_err_and c.from_residual-in_err-look_at_each-2.result c.from_residual-in_err-look_at_each-2.ensures.1 in
    rw (p.1, p.2) (ends-join _ _ _ _ _ _ _ _ _ c.in_ok-look_at_each.ensures.ok c.in_err-look_at_each-2.ensures.err)
