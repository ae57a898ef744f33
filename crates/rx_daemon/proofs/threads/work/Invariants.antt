use Rattle.std.proofs.Common.{◌≡◌}
use Rattle.rx_daemon.specs.Accounts.{IsEven}
use Rattle.rx_daemon.proofs.threads.work.Given as goal

abbrev pub invariant-loop : goal.invariant-loop
invariant-loop g l = record {
  parts : l.account.parts ≡ l.fn.account.parts;
  even : IsEven l.account;
}
