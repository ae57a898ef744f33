use Rattle.std.proofs.Common.{length, take}
use Rattle.std.specs.List.{AllByRecursion}
use Rattle.rx_base.specs.Paths.{IsName, parts}
use Rattle.rx_base.proofs.path_text.are_names.Given as goal

abbrev pub invariant-loop-part : goal.invariant-loop-part
invariant-loop-part l = AllByRecursion IsName (take (length l.yielded) (parts l.text))
