-- What the code found against what the definition finds.
use Rattle.std.specs.Prelude.{true, false, map}
use Rattle.rx_lex.specs.Directives.{Name, Found as Reading}
use Rattle.rx_lex.specs.declared.found.Include.{Include}
use Rattle.rx_lex.specs.declared.found.Include.TheVariants.{Quoted, Angled}
use Rattle.rx_lex.specs.declared.found.Directives.{Directives}

abbrev pub name_view : Include → Name
name_view (Quoted v) = record { angled = false; name = v.items }
name_view (Angled v) = record { angled = true; name = v.items }

abbrev pub found_view : Directives → Reading
found_view found = record { list = map name_view found.list.items; hard = found.hard; raw = found.raw }
