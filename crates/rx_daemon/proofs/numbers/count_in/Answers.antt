use Rattle.std.proofs.Common.{rules, arith}
use Rattle.rx_daemon.specs.Numbers.{count_in}
use Rattle.rx_daemon.proofs.PortLemmas.{no_number}
use Rattle.rx_daemon.proofs.numbers.count_in.Goals as goal

pub returns-in-Err : goal.returns-in-Err
unfolding count_in
returns-in-Err c =
    let refused = no_number c.args.most (omega (arith)) c.args.text.now (cc) (c.in-Err.ensures.value.0) in
    search rules
