-- The blobs that a farm keeps.
use Rattle.std.specs.Prelude.{◌≡◌}
use Rattle.rx_base.specs.Digests.{digest_of}
use Rattle.rx_tree.specs.declared.blobs.Blob.{Blob}

-- a blob goes by the digest of its bytes
abbrev pub IsOwn : Blob → Type 0
IsOwn blob = digest_of blob.bytes ≡ blob.digest
