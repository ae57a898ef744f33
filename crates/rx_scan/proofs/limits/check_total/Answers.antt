use Rattle.rx_scan.proofs.LimitLemmas.{sum_fits}
use Rattle.rx_scan.proofs.limits.check_total.Goals as goal

pub total_size-total-requires : goal.total_size-total-requires
total_size-total-requires c = sum_fits c.args.files.now c.requires.few c.requires.small
