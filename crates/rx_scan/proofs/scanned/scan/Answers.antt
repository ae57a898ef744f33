use Rattle.std.proofs.lemmas.Result.{err_from_is_err_and}
use Rattle.rx_scan.specs.declared.limits.Extent.TheVariants.{Scan}
use Rattle.rx_scan.proofs.LookSteps.{if-known}
use Rattle.rx_scan.proofs.ScanBlames.{all-scanned, limits-refused, paths-looked, scan-ended, scan-no_memory}
use Rattle.rx_scan.proofs.SeenAll.{all-dirs_seen, all-seen, sorted-dirs}
use Rattle.rx_scan.proofs.WholeTaken.{few-files, seen-sorted}
use Rattle.rx_scan.proofs.scanned.scan.Goals as goal

pub returns-in_err-found-clause-scanned : goal.returns-in_err-found-clause-scanned
returns-in_err-found-clause-scanned g c =
    let p = err_from_is_err_and c.from_residual.result c.from_residual.ensures.1 in
    rw (p.1, p.2) c.in_err-found.ensures.found

pub returns-in_err-look_at_both-clause-scanned : goal.returns-in_err-look_at_both-clause-scanned
returns-in_err-look_at_both-clause-scanned g c =
    let p = err_from_is_err_and c.from_residual-in_err-look_at_both.result c.from_residual-in_err-look_at_both.ensures.1 in
    rw (p.1, p.2) (scan-ended _ _ _ _ _ _ _ _ _ c.args.inputs.now c.args.meaning.now _ c.in_ok-found.ensures.found c.in_err-look_at_both.ensures.err)

pub returns-in_err-files-clause-scanned : goal.returns-in_err-files-clause-scanned
returns-in_err-files-clause-scanned g c =
    let p = err_from_is_err_and c.from_residual-in_err-files.result c.from_residual-in_err-files.ensures.1 in
    rw (p.1, p.2) (scan-no_memory _ _ _ _ _ _ _ _ c.args.inputs.now c.args.meaning.now
    (paths-looked _ _ _ _ _ _ _ _ c.args.inputs.now c.args.meaning.now c.in_ok-found.found c.in_ok-found.ensures.found c.in_ok-look_at_both.ensures.ok))

pub returns-in_err-check_limits-clause-scanned : goal.returns-in_err-check_limits-clause-scanned
returns-in_err-check_limits-clause-scanned g c =
    let p = err_from_is_err_and c.from_residual-in_err-check_limits.result c.from_residual-in_err-check_limits.ensures.1 in
    let known = rw c.as_slice.ensures at c.in_ok-look_at_both.ensures.files in
    let files = rw c.as_slice-3.ensures at c.in_ok-files.ensures in
    let large = rw c.as_slice-4.ensures at c.in_err-check_limits.ensures in
    rw (p.1, p.2) (limits-refused _ _ _ _ _ _ c.args.inputs.now c.args.meaning.now c.in_ok-found.found c.in_ok-files.files _ c.in_ok-found.ensures.sorted.0 known files (all-seen _ _ c.in_ok-files.files files) large
    (paths-looked _ _ _ _ _ _ _ _ c.args.inputs.now c.args.meaning.now c.in_ok-found.found c.in_ok-found.ensures.found c.in_ok-look_at_both.ensures.ok))

pub returns-in_err-dirs-clause-scanned : goal.returns-in_err-dirs-clause-scanned
returns-in_err-dirs-clause-scanned g c =
    let p = err_from_is_err_and c.from_residual-in_err-dirs.result c.from_residual-in_err-dirs.ensures.1 in
    rw (p.1, p.2) (scan-no_memory _ _ _ _ _ _ _ _ c.args.inputs.now c.args.meaning.now
    (paths-looked _ _ _ _ _ _ _ _ c.args.inputs.now c.args.meaning.now c.in_ok-found.found c.in_ok-found.ensures.found c.in_ok-look_at_both.ensures.ok))

pub returns-clause-few : goal.returns-clause-few
returns-clause-few g c = few-files Scan c.in_ok-files.files (rw c.as_slice-4.ensures at c.in_ok-check_limits.ensures)

pub returns-clause-sorted : goal.returns-clause-sorted
returns-clause-sorted g c =
    let files = rw c.as_slice-3.ensures at c.in_ok-files.ensures in
    let dirs = rw c.as_slice-5.ensures at c.in_ok-dirs.ensures in
    (seen-sorted _ _ c.in_ok-files.files files c.in_ok-found.ensures.sorted.0, sorted-dirs _ _ c.in_ok-dirs.dirs dirs c.in_ok-found.ensures.sorted.1)

pub returns-clause-seen : goal.returns-clause-seen
returns-clause-seen g c =
    let files = rw c.as_slice-3.ensures at c.in_ok-files.ensures in
    let dirs = rw c.as_slice-5.ensures at c.in_ok-dirs.ensures in
    (all-seen _ _ c.in_ok-files.files files, all-dirs_seen _ _ c.in_ok-dirs.dirs dirs)

pub returns-clause-scanned : goal.returns-clause-scanned
returns-clause-scanned g c =
    let known = rw c.as_slice.ensures at c.in_ok-look_at_both.ensures.files in
    let beside = rw c.as_slice-2.ensures at c.in_ok-look_at_both.ensures.dirs in
    let files = rw c.as_slice-3.ensures at c.in_ok-files.ensures in
    let fits = rw c.as_slice-4.ensures at c.in_ok-check_limits.ensures in
    let dirs = rw c.as_slice-5.ensures at c.in_ok-dirs.ensures in
    all-scanned _ _ _ _ _ _ c.args.inputs.now c.args.meaning.now c.in_ok-found.found c.in_ok-files.files c.in_ok-dirs.dirs c.in_ok-found.ensures.sorted.0 known beside files dirs fits
    (paths-looked _ _ _ _ _ _ _ _ c.args.inputs.now c.args.meaning.now c.in_ok-found.found c.in_ok-found.ensures.found c.in_ok-look_at_both.ensures.ok)

pub returns-clause-known : goal.returns-clause-known
returns-clause-known g c = if-known c.find_paths.new.sights c.look_at_both.new.sights c.in_ok-look_at_both.ensures.ok.answers c.in_ok-found.found.hard c.in_ok-look_at_both.ensures.ok.notes c.in_ok-found.ensures.known
