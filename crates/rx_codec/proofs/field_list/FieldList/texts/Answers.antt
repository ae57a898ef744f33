use Rattle.rx_codec.specs.Seen.{seen}
use Rattle.rx_codec.proofs.ContentLaws.{chunks_utf8}
use Rattle.rx_codec.proofs.field_list.FieldList.texts.Goals as goal

pub texts_of-requires : goal.texts_of-requires
texts_of-requires g c = rw (c.deref-2.ensures.value, c.in_ok-chunks.ensures, c.deref.ensures.value) (chunks_utf8 g.M.Shape.parts c.args.number (seen c.self.inside.fields.items) c.requires c.self.invariant)
