use Rattle.std.proofs.Common.{◌≡◌, length}
use Rattle.rx_cppflags.specs.Values.{has_text}
use Rattle.rx_cppflags.proofs.values.has_text.Given as goal

abbrev pub invariant-loop-others : goal.invariant-loop-others
invariant-loop-others l = has_text l.other l.rest ≡ has_text l.other l.text

abbrev pub decreases-loop-others : goal.decreases-loop-others
decreases-loop-others l = length l.rest
