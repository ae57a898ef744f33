use Rattle.std.proofs.Common.{take}
use Rattle.rx_blobs.specs.Uploads.{IsSplit, digests_of_blobs}
use Rattle.rx_blobs.proofs.presence.split_by.Given as goal

abbrev pub invariant-loop-blob : goal.invariant-loop-blob
invariant-loop-blob l = IsSplit (digests_of_blobs (take l.blob-index l.blobs)) l.split.known l.split.asked
