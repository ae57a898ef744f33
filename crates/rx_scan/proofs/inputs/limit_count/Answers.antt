use Rattle.std.proofs.Common.{arith, refl}
use Rattle.std.proofs.lemmas.Result.{err_from_is_err_and}
use Rattle.rx_scan.proofs.inputs.limit_count.Goals as goal

pub returns-then-len-le-MAX_SCAN_FILES-clause-same : goal.returns-then-len-le-MAX_SCAN_FILES-clause-same
returns-then-len-le-MAX_SCAN_FILES-clause-same c = λ item. (λ h. h, λ h. h)

pub returns-in_err-files-clause-same : goal.returns-in_err-files-clause-same
returns-in_err-files-clause-same c =
    let p = err_from_is_err_and c.from_residual.result c.from_residual.ensures.1 in
    rw p.1 tt

pub returns-in_err-files-clause-many : goal.returns-in_err-files-clause-many
returns-in_err-files-clause-many c =
    let p = err_from_is_err_and c.from_residual.result c.from_residual.ensures.1 in
    rw (p.1, p.2) tt

pub returns-then-len-gt-MAX_SCAN_FILES-clause-many : goal.returns-then-len-gt-MAX_SCAN_FILES-clause-many
returns-then-len-gt-MAX_SCAN_FILES-clause-many c =
    rw c.too_many.ensures ((refl, refl, refl), (c.in_ok-files.files, c.in_ok-files.ensures.ascending, c.in_ok-files.ensures.members, omega arith))

pub returns-clause-same : goal.returns-clause-same
returns-clause-same c = c.in_ok-files.ensures.members
