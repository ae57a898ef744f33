use Rattle.std.proofs.Common.{◌≡◌, ◌++◌, length}
use Rattle.rx_cppflags.specs.Pieces.{sayings, sayings_after}
use Rattle.rx_cppflags.proofs.pieces.cut.Given as goal

abbrev pub invariant-loop-word : goal.invariant-loop-word
invariant-loop-word l =
    l.pieces.items ++ sayings_after l.site.directory.now l.site.inputs.now l.is_value l.rest
    ≡ l.fn.pieces.items ++ sayings l.site.directory.now l.site.inputs.now l.words

abbrev pub decreases-loop-word : goal.decreases-loop-word
decreases-loop-word l = length l.rest
