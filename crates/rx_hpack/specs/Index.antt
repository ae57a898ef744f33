-- The index of a field (RFC 7541 2.3.3).
use Rattle.std.specs.Prelude.{ℕ, ◌-◌, ◌++◌, if◌then◌else◌, ◌==◌, slice_get, Result, Err}
use Rattle.std.specs.Option.{ok_or}
use Rattle.rx_hpack.specs.declared.fault.HpackFault.{HpackFault}
use Rattle.rx_hpack.specs.declared.fault.HpackFault.TheVariants.{BadIndex}
use Rattle.rx_hpack.specs.Header.{Field}
use Rattle.rx_hpack.specs.StaticTable.{static_fields}
use Rattle.rx_hpack.specs.DynamicTable.{Table}

-- The field with an index: the static table's fields from 1 on, and then the dynamic table's.
unfoldable pub field_at : Table → ℕ → Result Field HpackFault
field_at table index = if index == 0 then Err BadIndex else ok_or (slice_get (static_fields ++ table.entries) (index - 1)) BadIndex
