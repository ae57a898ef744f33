use Rattle.std.proofs.Common.{◌≡◌, ◌++◌, drop}
use Rattle.rx_cppflags.proofs.local_outputs.with_copies.Given as goal

abbrev pub invariant-loop-other : goal.invariant-loop-other
invariant-loop-other l = l.paths ++ drop l.other-index l.others ≡ l.fn.paths ++ l.others
