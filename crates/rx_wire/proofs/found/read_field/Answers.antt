use Rattle.std.proofs.Common.{arith}
use Rattle.rx_wire.proofs.FieldLaws.{Reads-if, inside_if}
use Rattle.rx_wire.proofs.found.read_field.Goals as goal

pub returns-clause-found : goal.returns-clause-found
returns-clause-found c = Reads-if c.args.bytes.now c.args.at _ c.field_at.result (λ i. omega (arith, c.type_inv.bytes i)) c.field_at.ensures.field

pub returns-clause-inside : goal.returns-clause-inside
returns-clause-inside c = inside_if c.args.bytes.now c.args.at c.field_at.result (λ i. omega (arith, c.type_inv.bytes i)) c.requires c.field_at.ensures.field
