use Rattle.std.proofs.Common.{◌≡◌, ◌++◌, map, take}
use Rattle.std.specs.List.{AllByRecursion}
use Rattle.rx_tree.specs.Entries.{dir_entry}
use Rattle.rx_tree.specs.Listings.{IsEntry}
use Rattle.rx_tree.proofs.entries.with_dirs.Given as goal

abbrev pub invariant-loop-dir : goal.invariant-loop-dir
invariant-loop-dir l = (l.entries.items ≡ l.fn.entries.items ++ map dir_entry (take l.dir-index l.dirs)) × AllByRecursion IsEntry (map dir_entry (take l.dir-index l.dirs))
