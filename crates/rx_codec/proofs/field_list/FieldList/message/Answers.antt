use Rattle.rx_codec.specs.Seen.{seen}
use Rattle.rx_codec.proofs.ContentLaws.{chunks_messages}
use Rattle.rx_codec.proofs.field_list.FieldList.message.Goals as goal

pub merged_of-requires : goal.merged_of-requires
merged_of-requires g c = rw (c.deref-2.ensures.value, c.in_ok-chunks.ensures, c.deref.ensures.value) (chunks_messages g.M.Shape.parts g.N.Shape.parts c.args.number (seen c.self.inside.fields.items) c.requires c.self.invariant)
