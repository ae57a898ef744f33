use Rattle.std.proofs.Common.{◌≡◌, ◌≤◌, ◌-◌, length, map, take}
use Rattle.rx_base.specs.Digests.{digest_of}
use Rattle.rx_blobs.proofs.hashing.first_mismatch.Given as goal

abbrev pub invariant-loop-at : goal.invariant-loop-at
invariant-loop-at l = (l.at ≤ length l.digests) × (map digest_of (take l.at l.texts) ≡ take l.at l.digests)

abbrev pub decreases-loop-at : goal.decreases-loop-at
decreases-loop-at l = length l.digests - l.at
