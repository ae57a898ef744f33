use Rattle.std.proofs.Common.{◌≡◌, map}
use Rattle.rx_session.specs.Messages.{pair_in}
use Rattle.rx_session.proofs.pair_message.pairs_in.Given as goal

abbrev pub invariant-loop-message : goal.invariant-loop-message
invariant-loop-message l = l.pairs ≡ map pair_in l.yielded
