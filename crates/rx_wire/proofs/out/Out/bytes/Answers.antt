use Rattle.rx_wire.proofs.FieldLaws.{on_ok, Appends-bytes}
use Rattle.rx_wire.proofs.FieldLists.{AddsField-from}
use Rattle.rx_wire.proofs.out.Out.bytes.Goals as goal

pub returns-else-is_err-clause-spelled : goal.returns-else-is_err-clause-spelled
returns-else-is_err-clause-spelled c =
    on_ok c.push_bytes_field-written.result
    (λ e. Appends-bytes c.args.self.now _ c.args.number c.args.value.now c.requires.above c.requires.below c.push_bytes_field-written.ensures.len (rw c.self.view_is at e))
    c.push_bytes_field-written.ensures.ok

pub returns-else-is_err-clause-fields : goal.returns-else-is_err-clause-fields
returns-else-is_err-clause-fields c =
    on_ok c.push_bytes_field-written.result
    (λ e. AddsField-from c.args.self.now _ _ (Appends-bytes c.args.self.now _ c.args.number c.args.value.now c.requires.above c.requires.below c.push_bytes_field-written.ensures.len (rw c.self.view_is at e)))
    c.push_bytes_field-written.ensures.ok
