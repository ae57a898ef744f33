use Rattle.rx_wire.specs.Values.{varint}
use Rattle.rx_codec.proofs.ContentLaws.{part_of_varint}
use Rattle.rx_codec.proofs.FieldRead.{written_either, fields_either}
use Rattle.rx_codec.proofs.writer.Writer.push_varint.Goals as goal

pub invariant_of-self : goal.invariant_of-self
invariant_of-self g c =
    written_either c.varint.result g.M.Shape.parts c.self.inside.out c.varint.new.self (record { number = c.args.number; content = varint c.args.value }) c.self.invariant
    c.varint.ensures.fields c.varint.ensures.ok c.varint.ensures.err (part_of_varint (g.M.Shape.parts c.args.number) c.args.value)

pub returns : goal.returns
returns g c =
    rw (← c.self.view_is) (
    fields_either c.varint.result g.M.Shape.parts c.self.inside.out c.varint.new.self (record { number = c.args.number; content = varint c.args.value }) c.self.invariant
    c.varint.ensures.fields c.varint.ensures.ok (part_of_varint (g.M.Shape.parts c.args.number) c.args.value)
    )
