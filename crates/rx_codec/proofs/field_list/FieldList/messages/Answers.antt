use Rattle.rx_codec.specs.Seen.{seen}
use Rattle.rx_codec.proofs.ContentLaws.{chunks_messages}
use Rattle.rx_codec.proofs.field_list.FieldList.messages.Goals as goal

pub messages_of-requires : goal.messages_of-requires
messages_of-requires g c = rw (c.deref-2.ensures.value, c.in_ok-chunks.ensures, c.deref.ensures.value) (chunks_messages g.M.Shape.parts g.N.Shape.parts c.args.number (seen c.self.inside.fields.items) c.requires c.self.invariant)
