use Rattle.std.proofs.lemmas.Result.{err_from_is_err_and}
use Rattle.rx_scan.proofs.TreeSteps.{files-kept, files-refused, files-scanned}
use Rattle.rx_scan.proofs.input_trees.tree_files.Goals as goal

pub returns-then-not-kept-clause-taken : goal.returns-then-not-kept-clause-taken
returns-then-not-kept-clause-taken g c = files-scanned _ _ _ _ _ _ _ c.if-not-kept.true

pub returns-in_err-files-clause-taken : goal.returns-in_err-files-clause-taken
returns-in_err-files-clause-taken g c =
    let p = err_from_is_err_and c.from_residual.result c.from_residual.ensures.1 in
    rw (p.1, p.2) (files-refused _ _ _ _ _ _ _ _ c.if-not-kept.false c.in_err-files.ensures.taken)

pub returns-clause-taken : goal.returns-clause-taken
returns-clause-taken g c = files-kept _ _ _ _ _ _ c.args.outputs.now c.args.scanned c.in_ok-files.files c.args.kept c.if-not-kept.false c.in_ok-files.ensures.taken
