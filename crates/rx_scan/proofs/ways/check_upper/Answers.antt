use Rattle.std.proofs.lemmas.Result.{err_from_is_err_and}
use Rattle.rx_scan.proofs.BlockedLemmas.{on-ok, over-within, upper-first, upper-then, upper-within}
use Rattle.rx_scan.proofs.ways.check_upper.Goals as goal

pub refuse_at-requires : goal.refuse_at-requires
refuse_at-requires c = upper-within c.args.files.now c.args.paths.now c.upper_index.result c.requires.each c.upper_index.ensures

pub refuse_at-requires-2 : goal.refuse_at-requires-2
refuse_at-requires-2 c = over-within c.args.files.now c.args.paths.now c.args.dirs.now c.over_index.result c.requires.each c.over_index.ensures

pub returns-in_err-refuse_at-clause-err : goal.returns-in_err-refuse_at-clause-err
returns-in_err-refuse_at-clause-err c =
    let p = err_from_is_err_and c.from_residual.result c.from_residual.ensures.1 in
    let h = rw c.upper_index.ensures at c.in_err-refuse_at.ensures.err in
    rw (p.1, p.2) (λ some. upper-first c.args.files.now _ _ _ (h some))

pub returns-clause-apart : goal.returns-clause-apart
returns-clause-apart c = on-ok c.refuse_at-2.result _ (rw c.upper_index.ensures at c.in_ok-refuse_at.ensures.none)

pub returns-clause-clear : goal.returns-clause-clear
returns-clause-clear c = rw c.over_index.ensures at c.refuse_at-2.ensures.none

pub returns-clause-err : goal.returns-clause-err
returns-clause-err c =
    upper-then c.args.files.now _ _ c.refuse_at-2.result (rw c.upper_index.ensures at c.in_ok-refuse_at.ensures.none) (rw c.over_index.ensures at c.refuse_at-2.ensures.err)
