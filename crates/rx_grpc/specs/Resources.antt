-- The names of blobs that are read and written as streams (remote_execution.proto, ContentAddressableStorage).
use Rattle.std.specs.Prelude.{ℕ, ◌==◌, List, ◌++◌, length, if◌then◌else◌, codes}
use Rattle.std.specs.Fmt.{decimal}
use Rattle.hex.specs.Hex.{encode_lower}
use Rattle.rx_base.specs.declared.digests.Digest.{Digest}

-- with the name of the instance before it, where the farm has several
abbrev pub within : List ℕ → List ℕ
within instance = if length instance == 0 then instance else instance ++ codes "/"

unfoldable pub blob_name : Digest → List ℕ
blob_name digest = codes "blobs/" ++ encode_lower digest.hash ++ codes "/" ++ decimal digest.size

unfoldable pub read_name : List ℕ → Digest → List ℕ
read_name instance digest = within instance ++ blob_name digest

-- each upload has a name of its own
unfoldable pub write_name : List ℕ → List ℕ → Digest → List ℕ
write_name instance upload digest = within instance ++ codes "uploads/" ++ upload ++ codes "/" ++ blob_name digest
