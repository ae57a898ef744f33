use Rattle.std.proofs.lemmas.Result.{err_from_is_err_and}
use Rattle.rx_scan.proofs.DeclaredSteps.{all-taken, dirs-failed, dirs-listed, inputs-failed, roots-failed}
use Rattle.rx_scan.proofs.TakenSteps.{taken-no_memory}
use Rattle.rx_scan.proofs.inputs.take_inputs.Goals as goal

pub returns-in_err-looked-clause-taken : goal.returns-in_err-looked-clause-taken
returns-in_err-looked-clause-taken g c =
    let p = err_from_is_err_and c.from_residual.result c.from_residual.ensures.1 in
    rw (p.1, p.2) (inputs-failed _ _ _ _ _ _ c.args.inputs.now c.args.roots.now _ c.in_err-looked.ensures.looked)

pub returns-in_err-listed-clause-taken : goal.returns-in_err-listed-clause-taken
returns-in_err-listed-clause-taken g c =
    let p = err_from_is_err_and c.from_residual-in_err-listed.result c.from_residual-in_err-listed.ensures.1 in
    let h = rw c.as_slice.ensures at c.in_err-listed.ensures.listed in
    rw (p.1, p.2) (dirs-failed _ _ _ _ _ _ _ _ c.args.inputs.now c.args.roots.now c.in_ok-looked.looked _ c.in_ok-looked.ensures.looked h)

pub returns-in_err-all-clause-taken : goal.returns-in_err-all-clause-taken
returns-in_err-all-clause-taken g c =
    let p = err_from_is_err_and c.from_residual-in_err-all.result c.from_residual-in_err-all.ensures.1 in
    let h = rw c.as_slice.ensures at c.in_ok-listed.ensures.listed in
    rw (p.1, p.2) (roots-failed _ _ _ _ _ _ _ _ c.args.inputs.now c.args.roots.now c.in_ok-listed.listed c.in_ok-looked.looked _
    (dirs-listed _ _ _ _ _ _ _ _ _ _ _ c.in_ok-looked.ensures.looked h) c.in_err-all.ensures.listed)

pub returns-in_err-files-clause-taken : goal.returns-in_err-files-clause-taken
returns-in_err-files-clause-taken g c =
    let p = err_from_is_err_and c.from_residual-in_err-files.result c.from_residual-in_err-files.ensures.1 in
    let h = rw c.as_slice.ensures at c.in_ok-listed.ensures.listed in
    rw (p.1, p.2) (taken-no_memory _ _ _ _ _ _ _ _ c.args.inputs.now c.args.roots.now c.in_ok-listed.listed _ c.in_ok-looked.looked
    (dirs-listed _ _ _ _ _ _ _ _ _ _ _ c.in_ok-looked.ensures.looked h) c.in_ok-all.ensures.listed)

pub returns-in_err-empty_dirs-clause-taken : goal.returns-in_err-empty_dirs-clause-taken
returns-in_err-empty_dirs-clause-taken g c =
    let p = err_from_is_err_and c.from_residual-in_err-empty_dirs.result c.from_residual-in_err-empty_dirs.ensures.1 in
    let h = rw c.as_slice.ensures at c.in_ok-listed.ensures.listed in
    rw (p.1, p.2) (taken-no_memory _ _ _ _ _ _ _ _ c.args.inputs.now c.args.roots.now c.in_ok-listed.listed _ c.in_ok-looked.looked
    (dirs-listed _ _ _ _ _ _ _ _ _ _ _ c.in_ok-looked.ensures.looked h) c.in_ok-all.ensures.listed)

pub returns-clause-taken : goal.returns-clause-taken
returns-clause-taken g c =
    let h = rw c.as_slice.ensures at c.in_ok-listed.ensures.listed in
    let e = rw (c.as_slice-2.ensures, c.as_slice-3.ensures) at c.in_ok-empty_dirs.ensures in
    all-taken _ _ _ _ _ _ _ _ c.args.inputs.now c.args.roots.now c.in_ok-listed.listed _ _ _ c.in_ok-looked.looked
    (dirs-listed _ _ _ _ _ _ _ _ _ _ _ c.in_ok-looked.ensures.looked h) c.in_ok-all.ensures.listed c.in_ok-files.ensures.members e
