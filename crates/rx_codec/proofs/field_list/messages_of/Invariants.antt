use Rattle.std.proofs.Common.{◌≡◌, drop}
use Rattle.rx_base.specs.Texts.{texts as slices}
use Rattle.rx_codec.specs.Contents.{each_of}
use Rattle.rx_codec.proofs.EachLemmas.{onto}
use Rattle.rx_codec.proofs.field_list.messages_of.Given as goal

abbrev pub invariant-loop-piece : goal.invariant-loop-piece
invariant-loop-piece g l = each_of g.N.Message.from (slices l.pieces) ≡ onto l.messages.items (each_of g.N.Message.from (slices (drop l.piece-index l.pieces)))
