use Rattle.std.proofs.lemmas.Result.{err_from_is_err_and}
use Rattle.rx_scan.proofs.BlockedLemmas.{blames-upper}
use Rattle.rx_scan.proofs.ways.check_way.Goals as goal

pub returns-in_err-check_upper-clause-err : goal.returns-in_err-check_upper-clause-err
returns-in_err-check_upper-clause-err c =
    let p = err_from_is_err_and c.from_residual.result c.from_residual.ensures.1 in
    rw (p.1, p.2) (blames-upper c.args.command.now c.args.files.now c.args.paths.now c.args.dirs.now _ c.in_err-check_upper.ensures.err)
