-- Where the bytes of a text or of a file come from, how many they are, and whether they have the
-- digest that is named for them.
use Rattle.std.specs.Prelude.{ℕ, ◌==◌, ◌&&◌, List, [], ◌∷◌, Option, None, Some, if◌then◌else◌, length}
use Rattle.std.specs.Str.{bytes_eq}
use Rattle.rx_base.specs.Digests.{digest_of}
use Rattle.rx_base.specs.declared.digests.Digest.{Digest}
use Rattle.rx_results.specs.declared.slots.DigestMismatch.{DigestMismatch}
use Rattle.rx_results.specs.declared.slots.Slot.{Slot}

-- ---- what is fetched

-- a blob of no bytes needs no fetch
abbrev pub needed : Option Digest → Option Digest
needed None = None
needed (Some digest) = if digest.size == 0 then None else Some digest

-- the digest that has to be fetched, where no bytes stand in the result itself
abbrev pub wanted_by : List ℕ → Option Digest → Option Digest
wanted_by [] digest = needed digest
wanted_by (byte ∷ bytes) digest = None

-- the same of a slot
abbrev pub wanted : Slot → Option Digest
wanted slot = wanted_by slot.inline slot.digest

-- ---- sizes

-- the size by a digest, and 0 without one
abbrev pub size_told : Option Digest → ℕ
size_told None = 0
size_told (Some digest) = digest.size

-- the bytes that a text will have, by what the result tells
abbrev pub text_size_by : List ℕ → Option Digest → ℕ
text_size_by [] digest = size_told digest
text_size_by (byte ∷ bytes) digest = length (byte ∷ bytes)

-- the same of a slot
abbrev pub text_size : Slot → ℕ
text_size slot = text_size_by slot.inline slot.digest

-- the bytes that a file will have, by its digest
abbrev pub file_size : Slot → ℕ
file_size slot = size_told slot.digest

-- ---- contents in the result are hashed like fetched ones

-- both digests, where they differ
abbrev pub differing : Digest → Digest → Option DigestMismatch
differing expected got =
    if bytes_eq got.hash expected.hash && (got.size == expected.size) then None
    else Some (record { expected = expected; got = got })

abbrev pub mismatch_by : List ℕ → Option Digest → Option DigestMismatch
mismatch_by [] digest = None
mismatch_by (byte ∷ bytes) None = None
mismatch_by (byte ∷ bytes) (Some digest) = differing digest (digest_of (byte ∷ bytes))

-- the digest that is named, and that of the bytes that stand in the result, where these differ
abbrev pub mismatch_of : Slot → Option DigestMismatch
mismatch_of slot = mismatch_by slot.inline slot.digest
