-- Contents that were hashed.
use Rattle.std.specs.Prelude.{◌≡◌, ℕ, List}
use Rattle.rx_base.specs.declared.digests.Digest.{Digest}
use Rattle.rx_base.specs.Digests.{digest_of}

-- a content, and the digest that it is kept under
pub record Content : Type 0 where
  pub digest : Digest
  pub bytes : List ℕ

-- it is kept under its own
abbrev pub IsHashed : Content → Type 0
IsHashed content = digest_of content.bytes ≡ content.digest
