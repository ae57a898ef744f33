use Rattle.rx_codec.specs.Seen.{seen}
use Rattle.rx_codec.proofs.ContentLaws.{text_utf8}
use Rattle.rx_codec.proofs.field_list.FieldList.text.Goals as goal

pub unwrap-requires : goal.unwrap-requires
unwrap-requires g c = c.text_of.ensures.exact.1 (rw (c.last_bytes-bytes.ensures, c.deref.ensures.value) (text_utf8 g.M.Shape.parts c.args.number (seen c.self.inside.fields.items) c.requires c.self.invariant))
