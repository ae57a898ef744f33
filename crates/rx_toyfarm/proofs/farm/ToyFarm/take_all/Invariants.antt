use Rattle.std.proofs.Common.{◌≡◌, IfErr}
use Rattle.rx_exec_messages.specs.Calls.{RefusesOneOf, digests_of}
use Rattle.rx_toyfarm.proofs.farm.ToyFarm.take_all.Given as goal

abbrev pub invariant-loop-blob : goal.invariant-loop-blob
invariant-loop-blob l = IfErr l.answer (RefusesOneOf (digests_of l.blobs)) × (l.self ≡ record l.fn.self { store = l.self.store })
