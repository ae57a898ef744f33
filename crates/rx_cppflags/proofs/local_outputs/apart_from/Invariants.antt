use Rattle.std.proofs.Common.{◌≡◌, ◌++◌, drop, filter}
use Rattle.rx_cppflags.specs.Outside.{is_apart}
use Rattle.rx_cppflags.proofs.local_outputs.apart_from.Given as goal

abbrev pub invariant-loop-path : goal.invariant-loop-path
invariant-loop-path l = l.apart ++ filter (is_apart l.others) (drop l.path-index l.paths) ≡ filter (is_apart l.others) l.paths
