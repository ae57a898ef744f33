use Rattle.std.proofs.Common.{◌≡◌, ◌++◌, drop}
use Rattle.rx_cppflags.specs.Found.{walked_of}
use Rattle.rx_cppflags.proofs.found.walked_of.Given as goal

abbrev pub invariant-loop-piece : goal.invariant-loop-piece
invariant-loop-piece l = l.texts ++ walked_of (drop l.piece-index l.pieces) ≡ walked_of l.pieces
