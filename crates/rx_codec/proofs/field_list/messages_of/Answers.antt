use Rattle.rx_codec.specs.Parts.{IsMessage}
use Rattle.rx_codec.proofs.SliceLemmas.{each_at}
use Rattle.rx_codec.proofs.field_list.messages_of.Goals as goal

pub message_of-requires : goal.message_of-requires
message_of-requires g c = each_at (IsMessage g.N.Shape.parts) _ _ _ c.loop-piece-test.true c.requires
