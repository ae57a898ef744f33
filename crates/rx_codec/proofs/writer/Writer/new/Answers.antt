use Rattle.rx_codec.proofs.FieldRead.{IsWritten-none, fields_in-none}
use Rattle.rx_codec.proofs.writer.Writer.new.Goals as goal

pub invariant_of-result : goal.invariant_of-result
invariant_of-result g c = rw c.new.ensures (IsWritten-none g.M.Shape.parts)

pub returns : goal.returns
returns g c = rw c.new.ensures fields_in-none
