use Rattle.std.proofs.Common.{◌≡◌, map, take}
use Rattle.rx_client.specs.FailureTexts.{fault_text}
use Rattle.rx_client.proofs.fault_texts.texts_of.Given as goal

abbrev pub invariant-loop-fault : goal.invariant-loop-fault
invariant-loop-fault l = l.texts.items ≡ map fault_text (take l.fault-index l.faults)
