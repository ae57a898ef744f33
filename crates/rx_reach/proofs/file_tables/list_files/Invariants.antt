use Rattle.std.proofs.Common.{◌≡◌, map}
use Rattle.rx_reach.specs.FileTables.{file_of}
use Rattle.rx_reach.proofs.file_tables.list_files.Given as goal

abbrev pub invariant-loop-path : goal.invariant-loop-path
invariant-loop-path l = l.items ≡ map file_of l.yielded
