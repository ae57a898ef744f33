use Rattle.std.proofs.Common.{take}
use Rattle.rx_exec_messages.specs.Calls.{IsPartOf}
use Rattle.rx_toyfarm.proofs.farm.ToyFarm.missing_of.Given as goal

abbrev pub invariant-loop-digest : goal.invariant-loop-digest
invariant-loop-digest l = IsPartOf l.missing (take l.digest-index l.digests)
