use Rattle.std.proofs.Common.{◌≡◌, ◌++◌, drop}
use Rattle.rx_cppflags.specs.Found.{texts_of}
use Rattle.rx_cppflags.proofs.found.texts_of.Given as goal

abbrev pub invariant-loop-piece : goal.invariant-loop-piece
invariant-loop-piece l = l.texts ++ texts_of l.meaning (drop l.piece-index l.pieces) ≡ texts_of l.meaning l.pieces
