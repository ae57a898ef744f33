use Rattle.std.proofs.Common.{◌≡◌, length}
use Rattle.rx_daemon.specs.Words.{nothing_given, with_words}
use Rattle.rx_daemon.proofs.words.given_in.Given as goal

abbrev pub invariant-loop-word : goal.invariant-loop-word
invariant-loop-word l = with_words l.given l.rest ≡ with_words nothing_given l.words

abbrev pub decreases-loop-word : goal.decreases-loop-word
decreases-loop-word l = length l.rest
