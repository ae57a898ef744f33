-- A digest by way of the cache: what is asked of the sources for it, and each refusal.
use Rattle.std.specs.Prelude.{◌≡◌, ℕ, ◌⊎◌, true, false, List, [], ◌∷◌}
use Rattle.rx_base.specs.declared.digests.Digest.{Digest}
use Rattle.rx_base.specs.Digests.{digest_of}
use Rattle.rx_world.specs.declared.failures.Refused.{Refused}
use Rattle.rx_world.specs.declared.failures.Refused.TheVariants.{Failed, NoMemory as OutOfMemory}
use Rattle.rx_world.specs.declared.looks.Look.{Look}
use Rattle.rx_world.specs.declared.looks.Look.TheVariants.{Absent, Dir, File, Other}
use Rattle.rx_world.specs.declared.looks.Stamp.{Stamp}
use Rattle.rx_world.specs.declared.sources.Given.{Given}
use Rattle.rx_world.specs.declared.sources.Sources as sources
use Rattle.rx_world.specs.declared.world.World as world
use Rattle.rx_world.specs.Answers.{Gives}
use Rattle.rx_world.specs.Sources.{given_bytes, given_look, is_file}
use Rattle.rx_digest_cache.specs.declared.cache_fault.CacheFault.{CacheFault}
use Rattle.rx_digest_cache.specs.declared.cache_fault.CacheFault.TheVariants.{NoMemory, NotFile, SourceFault}

-- between two states a source tree gave answers of which this holds
pub record Asks {T W : Type 0} (w : world.Ghosts W) (s : sources.Ghosts T W) (before after : T) (Fact : List Given → Type 0) : Type 0 where
  pub answers : List Given
  pub gives : Gives w s before after answers
  pub fact : Fact answers

-- the first answer is a look at the path, which was a file, and these are the others
pub record FollowsFile (path : List ℕ) (answers others : List Given) : Type 0 where
  pub first : Look
  pub is_one : is_file first ≡ true
  pub answers_are : answers ≡ given_look path first ∷ others

-- the file was read with this look, and its bytes have this digest
pub record IsRead (path : List ℕ) (others : List Given) (look : Look) (digest : Digest) : Type 0 where
  pub bytes : List ℕ
  pub file : is_file look ≡ true
  pub others_are : others ≡ given_bytes path look bytes ∷ []
  pub digest_is : digest ≡ digest_of bytes

-- There was one look, at a file, and nothing was read; or a look and a read.
abbrev pub IsFound : List ℕ → List Given → Look → Digest → Type 0
IsFound path answers look digest =
    ((is_file look ≡ true) × (answers ≡ given_look path look ∷ []))
    ⊎ ((others : List Given) × FollowsFile path answers others × IsRead path others look digest)

-- each refusal only for its cause, over what was answered
abbrev pub Refuses : List ℕ → List Given → CacheFault → Type 0
Refuses path answers (NotFile look) =
    (is_file look ≡ false) × ((answers ≡ given_look path look ∷ []) ⊎ FollowsFile path answers (given_bytes path look [] ∷ []))
Refuses path answers SourceFault = (answers ≡ []) ⊎ FollowsFile path answers []
Refuses path answers NoMemory = FollowsFile path answers []

-- the same for the read after a look that was a file
abbrev pub RefusesRead : List ℕ → List Given → CacheFault → Type 0
RefusesRead path others (NotFile look) = (is_file look ≡ false) × (others ≡ given_bytes path look [] ∷ [])
RefusesRead path others SourceFault = others ≡ []
RefusesRead path others NoMemory = others ≡ []

-- what a refusal of the sources is here
abbrev pub fault_of : Refused → CacheFault
fault_of Failed = SourceFault
fault_of OutOfMemory = NoMemory

-- the look is at a file, and the digest is that of what the path holds under its stamp
abbrev pub HasDigest : (List ℕ → Stamp → List ℕ) → List ℕ → Look → Digest → Type 0
HasDigest content path (File stamp executable) digest = digest ≡ digest_of (content path stamp)
HasDigest content path Absent digest = ⊥
HasDigest content path Dir digest = ⊥
HasDigest content path Other digest = ⊥
