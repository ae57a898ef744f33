use Rattle.std.proofs.Common.{arith, refl}
use Rattle.std.proofs.lemmas.Result.{err_from_is_err_and}
use Rattle.rx_scan.proofs.CountLemmas.{list-over, counted-many, counted-whole}
use Rattle.rx_scan.proofs.inputs.add_found.Goals as goal

pub returns-then-found-gt-MAX_SCAN_FILES-clause-many : goal.returns-then-found-gt-MAX_SCAN_FILES-clause-many
returns-then-found-gt-MAX_SCAN_FILES-clause-many c = rw c.too_many.ensures ((refl, refl, refl), list-over c.args.files c.args.found.now (omega arith))

pub returns-in_err-all-clause-whole : goal.returns-in_err-all-clause-whole
returns-in_err-all-clause-whole c =
    let p = err_from_is_err_and c.from_residual.result c.from_residual.ensures.1 in
    rw p.1 tt

pub returns-in_err-all-clause-many : goal.returns-in_err-all-clause-many
returns-in_err-all-clause-many c =
    let p = err_from_is_err_and c.from_residual.result c.from_residual.ensures.1 in
    rw (p.1, p.2) tt

pub returns-clause-whole : goal.returns-clause-whole
returns-clause-whole c = counted-whole c.limit_count.result c.args.files c.in_ok-all.all c.args.found.now c.in_ok-all.ensures (omega arith) c.limit_count.ensures.same

pub returns-clause-many : goal.returns-clause-many
returns-clause-many c = counted-many c.limit_count.result c.args.files c.in_ok-all.all c.args.found.now c.in_ok-all.ensures c.limit_count.ensures.many
