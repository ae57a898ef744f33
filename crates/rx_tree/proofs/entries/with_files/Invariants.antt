use Rattle.std.proofs.Common.{◌≡◌, ◌++◌, map, take}
use Rattle.std.specs.List.{AllByRecursion}
use Rattle.rx_tree.specs.Entries.{file_entry}
use Rattle.rx_tree.specs.Listings.{IsEntry}
use Rattle.rx_tree.proofs.entries.with_files.Given as goal

abbrev pub invariant-loop-file : goal.invariant-loop-file
invariant-loop-file l = (l.entries.items ≡ l.fn.entries.items ++ map file_entry (take l.file-index l.files)) × AllByRecursion IsEntry (map file_entry (take l.file-index l.files))
