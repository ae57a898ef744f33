use Rattle.std.proofs.Common.{arith}
use Rattle.std.proofs.lemmas.List.{same_lists}
use Rattle.rx_daemon.proofs.agreeing.is_same_listing.Goals as goal

pub returns-clause-same : goal.returns-clause-same
returns-clause-same c = λ e.
    let end = c.loop-i-test.false in
    same_lists _ _ c.if-first-second.false (λ k d lt. c.loop-i.invariant k d (omega (arith, lt, end)))
