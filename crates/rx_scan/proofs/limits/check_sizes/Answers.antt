use Rattle.std.proofs.Common.{sym}
use Rattle.rx_scan.proofs.LimitLemmas.{none_large}
use Rattle.rx_scan.proofs.limits.check_sizes.Goals as goal

pub check_total-requires-clause-small : goal.check_total-requires-clause-small
check_total-requires-clause-small c = none_large c.args.files.now (sym c.in-None.ensures)
