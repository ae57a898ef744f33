use Rattle.std.proofs.Common.{◌-◌, length}
use Rattle.rx_codec.specs.Parts.{fields_checked}
use Rattle.rx_codec.proofs.ReadLemmas.{IsChecking}
use Rattle.rx_session.specs.Packed.{end_field_checked}
use Rattle.rx_session.proofs.packed.check_end.Given as goal

abbrev pub invariant-fields : goal.invariant-fields
invariant-fields l = IsChecking end_field_checked (fields_checked end_field_checked (length l.fn.fields.bytes) l.fn.fields.bytes l.fn.fields.at) l.fn.fields.bytes l.fields.bytes l.fields.at

abbrev pub decreases-fields : goal.decreases-fields
decreases-fields l = length l.fields.bytes - l.fields.at
