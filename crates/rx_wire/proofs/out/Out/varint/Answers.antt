use Rattle.rx_wire.proofs.FieldLaws.{on_ok, Appends-varint}
use Rattle.rx_wire.proofs.FieldLists.{AddsField-from}
use Rattle.rx_wire.proofs.out.Out.varint.Goals as goal

pub returns-else-is_err-clause-spelled : goal.returns-else-is_err-clause-spelled
returns-else-is_err-clause-spelled c =
    on_ok c.push_varint_field-written.result
    (λ e. Appends-varint c.args.self.now _ c.args.number c.args.value c.requires.above c.requires.below c.ranges.value.fits (rw c.self.view_is at e))
    c.push_varint_field-written.ensures.ok

pub returns-else-is_err-clause-fields : goal.returns-else-is_err-clause-fields
returns-else-is_err-clause-fields c =
    on_ok c.push_varint_field-written.result
    (λ e. AddsField-from c.args.self.now _ _ (Appends-varint c.args.self.now _ c.args.number c.args.value c.requires.above c.requires.below c.ranges.value.fits (rw c.self.view_is at e)))
    c.push_varint_field-written.ensures.ok
