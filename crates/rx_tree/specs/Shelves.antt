-- References to blobs, in order.
use Rattle.std.specs.Prelude.{◌≡◌, ℕ, List, map, false, true}
use Rattle.std.specs.Borrow.{Bor}
use Rattle.std.specs.List.Sorted.{IsPartitionPoint, IsPermutation, IsSorted}
use Rattle.std.specs.Ordering.{is_lt}
use Rattle.rx_base.specs.declared.digests.Digest.{Digest}
use Rattle.rx_base.specs.Digests.{by_digest}
use Rattle.rx_tree.specs.declared.blobs.Blob.{Blob}
use Rattle.rx_tree.specs.Blobs.{by_blob}

-- the blobs that these refer to
abbrev pub blobs_of : List (Bor Blob) → List Blob
blobs_of refs = map (λ (blob : Bor Blob). blob.now) refs

-- they are in order
abbrev pub IsOrdered : List (Bor Blob) → Type 0
IsOrdered refs = IsSorted (λ (x y : Bor Blob). by_blob x.now y.now) refs

-- they are the blobs in order
pub record IsShelf (blobs : List Blob) (refs : List (Bor Blob)) : Type 0 where
  pub all : IsPermutation blobs (blobs_of refs)
  pub ordered : IsOrdered refs

-- how many of these in front have lesser digests
abbrev pub IsFirstOf : Digest → List (Bor Blob) → ℕ → Type 0
IsFirstOf digest refs at = IsPartitionPoint (λ (blob : Bor Blob). is_lt (by_digest blob.now.digest digest) ≡ true) (λ (blob : Bor Blob). is_lt (by_digest blob.now.digest digest) ≡ false) refs at
