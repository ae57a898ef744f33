use Rattle.std.proofs.Common.{arith}
use Rattle.rx_wire.proofs.FieldLists.{SpellsFields-read, read_again}
use Rattle.rx_wire.proofs.fields.Fields.new.Goals as goal

pub returns-clause-spelled : goal.returns-clause-spelled
returns-clause-spelled c = λ found r. SpellsFields-read c.args.bytes.now 0 found (λ i. omega (arith, c.type_inv.bytes i)) r

pub returns-clause-again : goal.returns-clause-again
returns-clause-again c = λ fields s. read_again c.args.bytes.now 0 fields (omega arith) s
