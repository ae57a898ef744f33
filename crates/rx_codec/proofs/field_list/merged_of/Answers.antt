use Rattle.rx_codec.proofs.PartLaws.{IsMessage-concat}
use Rattle.rx_codec.proofs.field_list.merged_of.Goals as goal

pub message_of-requires : goal.message_of-requires
message_of-requires g c = rw (c.deref.ensures.value, c.in_ok-bytes.ensures) (IsMessage-concat g.N.Shape.parts _ c.requires)
