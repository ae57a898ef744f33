-- What a digest is (remote_execution.proto, Digest), and how digests are ordered.
use Rattle.std.specs.Prelude.{ℕ, List, length}
use Rattle.std.specs.declared.cmp.Ordering.{Ordering}
use Rattle.std.specs.Ordering.{nat_cmp, on, then_cmp}
use Rattle.std.specs.Cmp.{IsTotalOrder, nat_cmp_total, on_total, then_total}
use Rattle.std.specs.Cmp.Lexicographic.{slice_cmp, nat_list_cmp_total}
use Rattle.sha2.specs.Sha256.{sha256}
use Rattle.rx_base.specs.declared.digests.Digest.{Digest}

-- the SHA-256 hash of the bytes, and how many they are
abbrev pub digest_of : List ℕ → Digest
digest_of bytes = record { hash = sha256 bytes; size = length bytes }

-- digests by the bytes of the hash, then by the size
abbrev pub by_digest : Digest → Digest → Ordering
by_digest x y = then_cmp (on (λ (d : Digest). d.hash) (slice_cmp nat_cmp)) (on (λ (d : Digest). d.size) nat_cmp) x y

pub by_digest_total : IsTotalOrder by_digest
by_digest_total = then_total (on_total (λ (d : Digest). d.hash) nat_list_cmp_total) (on_total (λ (d : Digest). d.size) nat_cmp_total)
