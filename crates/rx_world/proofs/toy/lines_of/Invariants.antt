use Rattle.std.proofs.Common.{◌≡◌, take}
use Rattle.std.specs.List.{flat_map}
use Rattle.rx_world.specs.Toy.{toy_line}
use Rattle.rx_world.proofs.toy.lines_of.Given as goal

abbrev pub invariant-loop-file : goal.invariant-loop-file
invariant-loop-file l = l.lines.items ≡ flat_map toy_line (take l.file-index l.files)
