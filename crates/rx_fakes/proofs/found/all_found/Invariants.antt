use Rattle.std.proofs.Common.{◌≡◌, map}
use Rattle.std.specs.Map.Iter.{deref_pair}
use Rattle.rx_fakes.specs.Entries.{entry_of}
use Rattle.rx_fakes.specs.Found.{found_of}
use Rattle.rx_fakes.proofs.found.all_found.Given as goal

abbrev pub invariant-loop-path : goal.invariant-loop-path
invariant-loop-path l = l.found.items ≡ map found_of (map entry_of (map deref_pair l.yielded))
