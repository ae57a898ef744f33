use Rattle.std.proofs.Common.{◌≡◌, ◌≤◌, take}
use Rattle.std.specs.List.{sum_by}
use Rattle.rx_daemon.specs.Agreeing.{receipts_of}
use Rattle.rx_daemon.proofs.agreeing.receipts.Given as goal

abbrev pub invariant-loop-i : goal.invariant-loop-i
invariant-loop-i g l = record {
  sum : l.count ≡ sum_by (λ s. receipts_of s.transcript) (take l.i l.served);
  small : l.count ≤ l.i;
}
