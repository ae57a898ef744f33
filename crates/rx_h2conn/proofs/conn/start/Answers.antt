use Rattle.std.proofs.Common.{rules}
use Rattle.rx_h2conn.proofs.StartLemmas.{conn_started}
use Rattle.rx_h2conn.proofs.conn.start.Goals as goal

pub invariant_of-result : goal.invariant_of-result
invariant_of-result c = conn_started _ (search rules)
