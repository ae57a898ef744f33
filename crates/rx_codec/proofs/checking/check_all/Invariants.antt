use Rattle.std.proofs.Common.{◌-◌, length}
use Rattle.rx_codec.specs.Parts.{field_checked, parts_checked}
use Rattle.rx_codec.proofs.ReadLemmas.{IsChecking}
use Rattle.rx_codec.proofs.checking.check_all.Given as goal

abbrev pub invariant-fields : goal.invariant-fields
invariant-fields g l = IsChecking (field_checked g.M.Shape.parts l.fn.fields.bytes) (parts_checked g.M.Shape.parts l.fn.fields.bytes l.fn.fields.at) l.fn.fields.bytes l.fields.bytes l.fields.at

abbrev pub decreases-fields : goal.decreases-fields
decreases-fields g l = length l.fields.bytes - l.fields.at
