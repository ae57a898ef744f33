use Rattle.std.proofs.Common.{ℕ, List, ◌↔◌, ◌⊎◌, take}
use Rattle.std.specs.Prelude.{Contains}
use Rattle.rx_reach.proofs.progress.insert_all.Given as goal

abbrev pub invariant-loop-path : goal.invariant-loop-path
invariant-loop-path l = (path : List ℕ) → Contains l.set path ↔ (Contains l.fn.set path ⊎ Contains (take l.path-index l.paths) path)
