use Rattle.std.proofs.Common.{◌≡◌, take}
use Rattle.rx_world.specs.Outcomes.{listing}
use Rattle.rx_world.proofs.outcomes.list_files.Given as goal

abbrev pub invariant-loop-file : goal.invariant-loop-file
invariant-loop-file l = l.list.items ≡ listing (take l.file-index l.files)
