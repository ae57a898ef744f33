-- A field that is a number.
use Rattle.std.specs.Prelude.{ℕ, ◌==◌, List, [], if◌then◌else◌}
use Rattle.rx_wire.specs.Out.{varint_field}

-- left out where it is 0
unfoldable pub number_part : ℕ → ℕ → List ℕ
number_part number value = if value == 0 then [] else varint_field number value
