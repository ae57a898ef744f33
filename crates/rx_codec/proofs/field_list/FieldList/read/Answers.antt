use Rattle.rx_codec.proofs.PartLaws.{HasParts-read}
use Rattle.rx_codec.proofs.field_list.FieldList.read.Goals as goal

pub invariant_of-result : goal.invariant_of-result
invariant_of-result g c = rw c.in_ok-fields.ensures (HasParts-read g.M.Shape.parts c.args.bytes.now c.requires)
