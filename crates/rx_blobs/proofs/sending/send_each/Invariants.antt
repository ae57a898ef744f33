use Rattle.std.proofs.Common.{length}
use Rattle.std.specs.List.{AllByRecursion}
use Rattle.rx_exec_messages.specs.Calls.{digests_of}
use Rattle.rx_blobs.specs.Uploads.{IsOwn, IsSendingOn}
use Rattle.rx_blobs.proofs.sending.send_each.Given as goal

abbrev pub invariant-loop-blob : goal.invariant-loop-blob
invariant-loop-blob g l = record {
  sent : IsSendingOn g.C.Caller l.fn.caller l.caller (digests_of l.fn.blobs) (digests_of l.fn.blobs) (digests_of l.left);
  own : AllByRecursion IsOwn l.left;
}

abbrev pub decreases-loop-blob : goal.decreases-loop-blob
decreases-loop-blob g l = length l.left
