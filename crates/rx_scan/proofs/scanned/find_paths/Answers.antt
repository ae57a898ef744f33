use Rattle.std.proofs.lemmas.Result.{err_from_is_err_and}
use Rattle.rx_scan.proofs.ScanBlames.{both-found, inputs-refused, many-refused, paths-found, scan-ended, scan-no_memory}
use Rattle.rx_scan.proofs.scanned.find_paths.Goals as goal

pub returns-in_err-declared-clause-found : goal.returns-in_err-declared-clause-found
returns-in_err-declared-clause-found g c =
    let p = err_from_is_err_and c.from_residual.result c.from_residual.ensures.1 in
    let h = rw c.as_slice.ensures at c.in_err-declared.ensures.taken in
    rw (p.1, p.2) (inputs-refused _ _ _ _ _ _ c.args.inputs.now c.args.meaning.now _ h)

pub returns-in_err-reached-clause-found : goal.returns-in_err-reached-clause-found
returns-in_err-reached-clause-found g c =
    let p = err_from_is_err_and c.from_residual-in_err-reached.result c.from_residual-in_err-reached.ensures.1 in
    let h = rw c.as_slice.ensures at c.in_ok-declared.ensures.taken in
    rw (p.1, p.2) (scan-ended _ _ _ _ _ _ _ _ _ c.args.inputs.now c.args.meaning.now _ h c.in_err-reached.ensures.err)

pub returns-in_err-refuse_many-clause-found : goal.returns-in_err-refuse_many-clause-found
returns-in_err-refuse_many-clause-found g c =
    let p = err_from_is_err_and c.from_residual-in_err-refuse_many.result c.from_residual-in_err-refuse_many.ensures.1 in
    let h = rw c.as_slice.ensures at c.in_ok-declared.ensures.taken in
    let many = rw c.as_slice-2.ensures at c.in_err-refuse_many.ensures.many in
    rw (p.1, p.2) (many-refused _ _ _ _ _ _ c.args.inputs.now c.args.meaning.now c.in_ok-declared.declared c.in_ok-reached.reached _ c.in_ok-reached.ensures.sorted c.in_ok-reached.ensures.seen
    (both-found _ _ _ _ _ _ _ _ c.args.inputs.now c.args.meaning.now c.in_ok-declared.declared c.in_ok-reached.reached h c.in_ok-reached.ensures.ok) many)

pub returns-in_err-files-clause-found : goal.returns-in_err-files-clause-found
returns-in_err-files-clause-found g c =
    let p = err_from_is_err_and c.from_residual-in_err-files.result c.from_residual-in_err-files.ensures.1 in
    let h = rw c.as_slice.ensures at c.in_ok-declared.ensures.taken in
    rw (p.1, p.2) (scan-no_memory _ _ _ _ _ _ _ _ c.args.inputs.now c.args.meaning.now
    (both-found _ _ _ _ _ _ _ _ c.args.inputs.now c.args.meaning.now c.in_ok-declared.declared c.in_ok-reached.reached h c.in_ok-reached.ensures.ok))

pub returns-in_err-dirs-clause-found : goal.returns-in_err-dirs-clause-found
returns-in_err-dirs-clause-found g c =
    let p = err_from_is_err_and c.from_residual-in_err-dirs.result c.from_residual-in_err-dirs.ensures.1 in
    let h = rw c.as_slice.ensures at c.in_ok-declared.ensures.taken in
    rw (p.1, p.2) (scan-no_memory _ _ _ _ _ _ _ _ c.args.inputs.now c.args.meaning.now
    (both-found _ _ _ _ _ _ _ _ c.args.inputs.now c.args.meaning.now c.in_ok-declared.declared c.in_ok-reached.reached h c.in_ok-reached.ensures.ok))

pub returns-clause-found : goal.returns-clause-found
returns-clause-found g c =
    let h = rw c.as_slice.ensures at c.in_ok-declared.ensures.taken in
    let few = rw c.as_slice-2.ensures at c.in_ok-refuse_many.ensures.few in
    let files = rw c.as_slice-3.ensures at c.in_ok-files.ensures.members in
    let dirs = rw c.as_slice-4.ensures at c.in_ok-dirs.ensures.members in
    paths-found _ _ _ _ _ _ c.args.inputs.now c.args.meaning.now c.in_ok-declared.declared c.in_ok-reached.reached c.in_ok-files.files c.in_ok-dirs.dirs few files dirs
    (both-found _ _ _ _ _ _ _ _ c.args.inputs.now c.args.meaning.now c.in_ok-declared.declared c.in_ok-reached.reached h c.in_ok-reached.ensures.ok)
