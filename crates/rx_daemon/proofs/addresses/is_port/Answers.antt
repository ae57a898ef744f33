use Rattle.std.proofs.Common.{rules}
use Rattle.rx_daemon.specs.Addresses.{is_port}
use Rattle.rx_daemon.proofs.PortLemmas.{no_port}
use Rattle.rx_daemon.proofs.addresses.is_port.Goals as goal

pub returns-in-Err : goal.returns-in-Err
unfolding is_port
returns-in-Err c =
    let refused = no_port c.args.text.now (cc) (c.in-Err.ensures.value.0) in
    search rules
