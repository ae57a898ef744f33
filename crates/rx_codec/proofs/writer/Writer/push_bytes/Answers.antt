use Rattle.rx_wire.specs.Values.{bytes}
use Rattle.rx_codec.proofs.FieldRead.{written_either, fields_either}
use Rattle.rx_codec.proofs.writer.Writer.push_bytes.Goals as goal

pub invariant_of-self : goal.invariant_of-self
invariant_of-self g c =
    written_either c.bytes.result g.M.Shape.parts c.self.inside.out c.bytes.new.self (record { number = c.args.number; content = bytes c.args.value.now }) c.self.invariant
    c.bytes.ensures.fields c.bytes.ensures.ok c.bytes.ensures.err c.requires.part

pub returns : goal.returns
returns g c =
    rw (← c.self.view_is) (
    fields_either c.bytes.result g.M.Shape.parts c.self.inside.out c.bytes.new.self (record { number = c.args.number; content = bytes c.args.value.now }) c.self.invariant
    c.bytes.ensures.fields c.bytes.ensures.ok c.requires.part
    )
