-- A field that was found, without where it lies in memory.
use Rattle.rx_wire.specs.declared.found.Found.{Found}
use Rattle.rx_wire.specs.Values.{field_of}
use Rattle.rx_wire.specs.Fields.{Placed}

abbrev pub placed_of : Found → Placed
placed_of found = record { field = field_of found.number found.value; behind_tag = found.behind_tag; content = found.content; end = found.end }
