use Rattle.std.proofs.Common.{length}
use Rattle.rx_blobs.specs.Uploads.{HasRead, IsSendingOn, IsWithin}
use Rattle.rx_blobs.proofs.sending.send_missing.Given as goal

abbrev pub invariant-loop-first : goal.invariant-loop-first
invariant-loop-first g l = record {
  sent : IsSendingOn g.C.Caller l.fn.caller l.caller l.fn.missing l.fn.missing l.rest;
  read : HasRead g.W.World g.S.Sources l.fn.sources l.sources l.fn.blobs (λ answers. Unit {0});
  left_in : IsWithin l.left l.fn.blobs;
}

abbrev pub decreases-loop-first : goal.decreases-loop-first
decreases-loop-first g l = length l.rest
