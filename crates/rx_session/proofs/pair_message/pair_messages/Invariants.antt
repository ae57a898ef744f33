use Rattle.std.proofs.Common.{◌≡◌, map, take}
use Rattle.rx_session.specs.Messages.{pair_message}
use Rattle.rx_session.proofs.pair_message.pair_messages.Given as goal

abbrev pub invariant-loop-pair : goal.invariant-loop-pair
invariant-loop-pair l = l.messages ≡ map pair_message (take l.pair-index l.pairs)
