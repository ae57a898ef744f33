use Rattle.std.proofs.Common.{◌≡◌, map, take}
use Rattle.std.specs.List.{AllByRecursion}
use Rattle.rx_session.specs.Ends.{end_of}
use Rattle.rx_session.specs.Typed.{failure_is_typed}
use Rattle.rx_session.proofs.payloads.ends_of.Given as goal

abbrev pub invariant-loop-failure : goal.invariant-loop-failure
invariant-loop-failure l = (l.ends ≡ map end_of (take l.failure-index l.failures)) × AllByRecursion failure_is_typed (take l.failure-index l.failures)
