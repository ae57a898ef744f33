-- Where a proxy listens.
use Rattle.std.specs.Prelude.{ℕ, List, Option, Some, None, codes, if◌then◌else◌}
use Rattle.std.specs.Option.{option_and_then}
use Rattle.std.specs.Prelude.{option_map}
use Rattle.rx_wrap.specs.Cuts.{begins, stripped}
use Rattle.rx_wrap.specs.Numbers.{port_in}
use Rattle.rx_wrap.specs.declared.addresses.Address.{Address}
use Rattle.rx_wrap.specs.declared.addresses.Address.TheVariants.{Unix, Port}

abbrev pub socket_at : List ℕ → Option Address
socket_at path = if begins path (codes "/") then Some (Unix path) else None

abbrev pub port_or_none : Option (List ℕ) → Option Address
port_or_none port = option_map Port (option_and_then port_in port)

abbrev pub address_by : Option (List ℕ) → List ℕ → Option Address
address_by (Some path) text = socket_at path
address_by None text = port_or_none (stripped (codes "127.0.0.1:") text)

-- unix://PATH, where PATH begins with a slash, or 127.0.0.1:PORT
unfoldable pub address_of : List ℕ → Option Address
address_of text = address_by (stripped (codes "unix://") text) text
