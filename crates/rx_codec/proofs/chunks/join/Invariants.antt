use Rattle.std.proofs.Common.{◌≡◌, take}
use Rattle.std.specs.List.{concat}
use Rattle.rx_base.specs.Texts.{texts as slices}
use Rattle.rx_codec.proofs.chunks.join.Given as goal

abbrev pub invariant-loop-piece : goal.invariant-loop-piece
invariant-loop-piece l = l.bytes.items ≡ concat (slices (take l.piece-index l.pieces))
