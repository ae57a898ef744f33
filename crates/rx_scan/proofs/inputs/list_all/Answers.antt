use Rattle.std.proofs.lemmas.Result.{err_from_is_err_and}
use Rattle.rx_scan.proofs.DeclaredSteps.{list-failed, list-many, list-more, list-start}
use Rattle.rx_scan.proofs.TakenSteps.{list-end}
use Rattle.rx_scan.proofs.inputs.list_all.Goals as goal

pub loop-root-init : goal.loop-root-init
loop-root-init g c = list-start _ _ _ _ c.args.files c.args.roots.now

pub returns-in_err-found : goal.returns-in_err-found
returns-in_err-found g c =
    let p = err_from_is_err_and c.from_residual.result c.from_residual.ensures.1 in
    rw (p.1, p.2) (record { listed = list-failed _ _ _ _ _ _ _ _ _ c.args.files c.args.roots.now _ c.loop-root.invariant c.in_err-found.ensures.listed })

pub returns-in_err-more : goal.returns-in_err-more
returns-in_err-more g c =
    let p = err_from_is_err_and c.from_residual-in_err-more.result c.from_residual-in_err-more.ensures.1 in
    let many = rw c.as_slice.ensures at c.in_err-more.ensures.many in
    rw (p.1, p.2) (record { listed = list-many _ _ _ _ _ _ _ _ c.args.files c.args.roots.now _ _ _ c.in_ok-found.found _ c.loop-root-test.true c.root-item.is c.loop-root.invariant c.in_ok-found.ensures.listed many })

pub loop-root-preserved : goal.loop-root-preserved
loop-root-preserved g c =
    let whole = rw c.as_slice.ensures at c.in_ok-more.ensures.whole in
    list-more _ _ _ _ _ _ _ _ _ _ _ _ _ _ _ c.loop-root-test.true c.root-item.is c.loop-root.invariant c.in_ok-found.ensures.listed whole.0 whole.1

pub returns : goal.returns
returns g c = record { listed = list-end _ _ _ _ _ _ c.args.files c.args.roots.now c.loop-root.files c.loop-root.root-index c.loop-root-test.false c.loop-root.invariant }
