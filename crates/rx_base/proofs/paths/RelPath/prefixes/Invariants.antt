use Rattle.std.proofs.Common.{◌≡◌, ◌-◌, take}
use Rattle.rx_base.specs.Paths.{prefixes_of}
use Rattle.rx_base.proofs.paths.RelPath.prefixes.Given as goal

abbrev pub invariant-loop-count : goal.invariant-loop-count
invariant-loop-count l = l.prefixes ≡ take (l.count - 1) (prefixes_of l.self)
