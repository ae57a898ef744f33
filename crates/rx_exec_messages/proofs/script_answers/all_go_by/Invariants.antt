use Rattle.std.proofs.Common.{◌≡◌, length, take}
use Rattle.rx_exec_messages.specs.Calls.{digests_of}
use Rattle.rx_exec_messages.proofs.script_answers.all_go_by.Given as goal

abbrev pub invariant-loop-at : goal.invariant-loop-at
invariant-loop-at l =
    (length l.blobs ≡ length l.digests) × (digests_of (take l.at l.blobs) ≡ take l.at l.digests)
