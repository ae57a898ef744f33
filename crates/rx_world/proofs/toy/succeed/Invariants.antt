use Rattle.std.proofs.Common.{◌≡◌, take, map}
use Rattle.rx_world.specs.Toy.{toy_file}
use Rattle.rx_world.proofs.toy.succeed.Given as goal

abbrev pub invariant-loop-path : goal.invariant-loop-path
invariant-loop-path l = l.made.items ≡ map (toy_file l.fn.files) (take l.path-index l.outputs)
