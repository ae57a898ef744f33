use Rattle.std.proofs.Common.{◌≡◌, ◌++◌, drop}
use Rattle.rx_cppflags.specs.Found.{paths_of}
use Rattle.rx_cppflags.proofs.found.paths_of.Given as goal

abbrev pub invariant-loop-piece : goal.invariant-loop-piece
invariant-loop-piece l = l.paths ++ paths_of l.meaning (drop l.piece-index l.pieces) ≡ l.fn.paths ++ paths_of l.meaning l.pieces
