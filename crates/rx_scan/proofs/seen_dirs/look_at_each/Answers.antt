use Rattle.std.proofs.Common.{subst}
use Rattle.std.proofs.lemmas.List.{take_all}
use Rattle.std.proofs.lemmas.List.Elements.{All-nil}
use Rattle.std.proofs.lemmas.Result.{err_from_is_err_and}
use Rattle.rx_reach.specs.Scenes.{Always}
use Rattle.rx_reach.specs.Sights.{AreKnownAt, IsKnownAt}
use Rattle.rx_reach.proofs.ScanLemmas.{ends-join, scans-none, scans-on}
use Rattle.rx_scan.proofs.LookSteps.{looks-known, scans-right}
use Rattle.rx_scan.proofs.seen_dirs.look_at_each.Goals as goal

pub loop-path-init : goal.loop-path-init
loop-path-init g c = record { scans = scans-none _ _ _ _ Always (λ scene _. tt); known = All-nil (IsKnownAt c.args.sights.now) }

pub returns-in_err-look-clause-err : goal.returns-in_err-look-clause-err
returns-in_err-look-clause-err g c =
    let p = err_from_is_err_and c.from_residual.result c.from_residual.ensures.1 in
    rw (p.1, p.2) (ends-join _ _ _ _ _ _ _ _ _ c.loop-path.invariant.scans c.in_err-look.ensures.err)

pub loop-path-preserved : goal.loop-path-preserved
loop-path-preserved g c =
    let looked = c.in_ok-look.ensures in
    record {
      scans = scans-on _ _ _ _ _ _ _ _ _ _ c.loop-path.invariant.scans looked.ok;
      known = looks-known _ _ looked.ok.answers _ _ _ _ c.loop-path-test.true c.path-item.is c.loop-path.invariant.known looked.ok.notes looked.seen;
    }

pub returns-clause-ok : goal.returns-clause-ok
returns-clause-ok g c = scans-right _ _ _ _ _ _ _ c.loop-path.invariant.scans

pub returns-clause-seen : goal.returns-clause-seen
returns-clause-seen g c =
    subst (AreKnownAt c.loop-path.sights) (take_all c.loop-path.path-index c.args.paths.now c.loop-path-test.false) c.loop-path.invariant.known
