use Rattle.std.proofs.Common.{◌-◌, length}
use Rattle.rx_codec.proofs.ReadLemmas.{IsChecking}
use Rattle.rx_session.specs.Packed.{packed_checked, reply_field_checked}
use Rattle.rx_session.proofs.packed.check_packed.Given as goal

abbrev pub invariant-fields : goal.invariant-fields
invariant-fields l = IsChecking (reply_field_checked l.payload) (packed_checked l.payload) l.payload l.fields.bytes l.fields.at

abbrev pub decreases-fields : goal.decreases-fields
decreases-fields l = length l.fields.bytes - l.fields.at
