use Rattle.std.proofs.Common.{◌-◌, length}
use Rattle.rx_codec.specs.Seen.{seen}
use Rattle.rx_codec.proofs.ReadLemmas.{IsReading}
use Rattle.rx_codec.proofs.chunks.read_fields.Given as goal

abbrev pub invariant-fields : goal.invariant-fields
invariant-fields l = IsReading l.fn.bytes l.fields.bytes l.fields.at (seen l.found.items)

abbrev pub decreases-fields : goal.decreases-fields
decreases-fields l = length l.fields.bytes - l.fields.at
