-- What is kept between calls: for each of some paths a stamp, and a digest that belongs to both.
use Rattle.std.specs.Prelude.{◌≡◌, ◌≢◌, ℕ, ◌&&◌, ◌==◌, List, Option, None, Some, if◌then◌else◌}
use Rattle.std.specs.BTreeMap.{is_at}
use Rattle.std.specs.Cmp.Lexicographic.{slice_cmp}
use Rattle.std.specs.Map.{lookup}
use Rattle.std.specs.Ordering.{nat_cmp}
use Rattle.rx_base.specs.declared.digests.Digest.{Digest}
use Rattle.rx_base.specs.Digests.{digest_of}
use Rattle.rx_world.specs.declared.looks.Stamp.{Stamp}
use Rattle.rx_digest_cache.specs.declared.kept.StampedDigest.{StampedDigest}

-- the paths with what is kept of each, and how many there may be
pub record Held : Type 0 where
  pub entries : List (List ℕ × StampedDigest)
  pub limit : ℕ

-- what is kept of a path
abbrev pub kept_at : List (List ℕ × StampedDigest) → List ℕ → Option StampedDigest
kept_at entries path = lookup (is_at (slice_cmp nat_cmp path)) entries

-- afterwards this is kept of the path, and of every other path what was
pub record Keeps (old new : List (List ℕ × StampedDigest)) (path : List ℕ) (entry : StampedDigest) : Type 0 where
  pub here : kept_at new path ≡ Some entry
  pub others : (other : List ℕ) → other ≢ path → kept_at new other ≡ kept_at old other

-- the digest, where it belongs to this stamp
abbrev pub digest_under : Stamp → Option StampedDigest → Option Digest
digest_under stamp None = None
digest_under stamp (Some entry) = if (entry.stamp.size == stamp.size) && (entry.stamp.mark == stamp.mark) then Some entry.digest else None

-- the digest is that of the content of the path under the stamp
abbrev pub IsTied : (List ℕ → Stamp → List ℕ) → List ℕ → StampedDigest → Type 0
IsTied content path entry = entry.digest ≡ digest_of (content path entry.stamp)

-- so it is at each path
abbrev pub AreTied : (List ℕ → Stamp → List ℕ) → List (List ℕ × StampedDigest) → Type 0
AreTied content entries = (path : List ℕ) (entry : StampedDigest) → kept_at entries path ≡ Some entry → IsTied content path entry
