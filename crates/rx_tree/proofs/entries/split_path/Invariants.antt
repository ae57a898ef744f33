use Rattle.std.proofs.Common.{◌≡◌, length, take}
use Rattle.rx_base.specs.Paths.{parts}
use Rattle.rx_base.specs.Texts.{texts}
use Rattle.rx_tree.proofs.entries.split_path.Given as goal

abbrev pub invariant-loop-name : goal.invariant-loop-name
invariant-loop-name l = texts l.names.items ≡ take (length l.yielded) (parts l.path)
