use Rattle.std.proofs.Common.{◌≡◌, take}
use Rattle.std.specs.List.{flat_map}
use Rattle.rx_wire.specs.Varints.{shortest}
use Rattle.rx_session.specs.CallFaults.{call_fault_number}
use Rattle.rx_session.proofs.call_faults.packed_faults.Given as goal

abbrev pub invariant-loop-fault : goal.invariant-loop-fault
invariant-loop-fault l =
    l.packed.items ≡ flat_map (λ fault. shortest (call_fault_number fault)) (take l.fault-index l.faults)
