-- What a list tells of an entry.
use Rattle.rx_world.specs.declared.sources.Found.{Found}
use Rattle.rx_world.specs.declared.sources.SourceEntry.{SourceEntry}

abbrev pub found_of : SourceEntry → Found
found_of entry = record { path = entry.path; look = entry.look }
