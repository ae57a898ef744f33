use Rattle.std.proofs.Common.{◌≡◌}
use Rattle.rx_daemon.specs.Threads.{Rises}
use Rattle.rx_daemon.proofs.settling.tell_apart.Given as goal

abbrev pub invariant-loop-i : goal.invariant-loop-i
invariant-loop-i g l = record {
  same : l.served.items ≡ l.fn.served.items;
  rises : Rises l.i l.served.items;
}
