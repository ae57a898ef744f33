use Rattle.std.proofs.Common.{◌≡◌, take}
use Rattle.rx_base.specs.Texts.{texts as slices}
use Rattle.rx_codec.proofs.chunks.texts_of.Given as goal

abbrev pub invariant-loop-piece : goal.invariant-loop-piece
invariant-loop-piece l = l.texts.items ≡ slices (take l.piece-index l.pieces)
