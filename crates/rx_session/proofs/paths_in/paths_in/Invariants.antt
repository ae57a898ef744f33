use Rattle.std.proofs.Common.{◌≡◌, take, map}
use Rattle.rx_session.specs.Rules.{path_in}
use Rattle.rx_session.proofs.paths_in.paths_in.Given as goal

abbrev pub invariant-loop-text : goal.invariant-loop-text
invariant-loop-text l = l.paths.items ≡ map path_in (take l.text-index l.texts)
