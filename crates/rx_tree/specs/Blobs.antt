-- Blobs: bytes with their digests.
use Rattle.std.specs.Prelude.{◌≢◌, ℕ, List, Option, map, slice_get}
use Rattle.std.specs.declared.cmp.Ordering.{Ordering}
use Rattle.std.specs.List.{AllPairs, filter}
use Rattle.std.specs.Ordering.{is_eq, nat_cmp, on, then_cmp}
use Rattle.std.specs.Cmp.{IsTotalOrder, on_total, then_total}
use Rattle.std.specs.Cmp.Lexicographic.{slice_cmp, nat_list_cmp_total}
use Rattle.rx_base.specs.Digests.{digest_of, by_digest, by_digest_total}
use Rattle.rx_base.specs.SortedPaths.{sorted_paths}
use Rattle.rx_base.specs.declared.digests.Digest.{Digest}
use Rattle.rx_tree.specs.declared.blobs.Blob.{Blob}

-- bytes as a blob
abbrev pub blob_of : List ℕ → Blob
blob_of bytes = record { digest = digest_of bytes; bytes = bytes }

-- no item comes twice
abbrev pub HasNoRepeats : {K : Type 0} → List K → Type 0
HasNoRepeats items = AllPairs (λ x y. x ≢ y) items

-- blobs by digest, then bytes
abbrev pub by_blob : Blob → Blob → Ordering
by_blob x y = then_cmp (on (λ (b : Blob). b.digest) by_digest) (on (λ (b : Blob). b.bytes) (slice_cmp nat_cmp)) x y

pub by_blob_total : IsTotalOrder by_blob
by_blob_total = then_total (on_total (λ (b : Blob). b.digest) by_digest_total) (on_total (λ (b : Blob). b.bytes) nat_list_cmp_total)

-- The bytes of the blob with a digest; the least, where several have it.
abbrev pub blob_at : Digest → List Blob → Option (List ℕ)
blob_at digest blobs = slice_get (sorted_paths (map (λ (b : Blob). b.bytes) (filter (λ (b : Blob). is_eq (by_digest b.digest digest)) blobs))) 0
