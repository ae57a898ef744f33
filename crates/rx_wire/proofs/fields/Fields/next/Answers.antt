use Rattle.rx_wire.specs.Found.{placed_of}
use Rattle.rx_wire.proofs.FieldLaws.{only_ok, only_err, only_end}
use Rattle.rx_wire.proofs.fields.Fields.next.Goals as goal

pub returns-then-self-clause-only : goal.returns-then-self-clause-only
returns-then-self-clause-only c = λ f text rest s d. absurd (only_end c.args.self.now f text rest (rw (← c.self.view_is) c.if-self.true) s d)

pub returns-in-Ok-clause-only : goal.returns-in-Ok-clause-only
returns-in-Ok-clause-only c = λ f text rest s d. only_ok c.args.self.now (placed_of c.in-Ok.found) f text rest (rw (← c.self.view_is) c.in-Ok.ensures.field) s d

pub returns-in-Err-clause-only : goal.returns-in-Err-clause-only
returns-in-Err-clause-only c = λ f text rest s d. absurd (only_err c.args.self.now c.in-Err.fault f text rest (rw (← c.self.view_is) c.in-Err.ensures.field) s d)
