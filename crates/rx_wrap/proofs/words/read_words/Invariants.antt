use Rattle.std.proofs.Common.{◌≡◌, length}
use Rattle.rx_wrap.specs.Words.{nothing_read, words_in}
use Rattle.rx_wrap.proofs.words.read_words.Given as goal

abbrev pub invariant-loop-word : goal.invariant-loop-word
invariant-loop-word l = words_in l.reading l.rest ≡ words_in nothing_read l.words

abbrev pub decreases-loop-word : goal.decreases-loop-word
decreases-loop-word l = length l.rest
