-- Bytes as they are written.
use Rattle.std.specs.Prelude.{◌≡◌, ℕ, List}
use Rattle.rx_wire.specs.Fields.{SpellsFields}
use Rattle.rx_codec.specs.FieldBytes.{fields_bytes, fields_in}
use Rattle.rx_codec.specs.Parts.{Part, HasParts}

-- The bytes are those that are written for their fields, and these are what their parts say.
pub record IsWritten (parts : ℕ → Part) (all : List ℕ) : Type 0 where
  pub same : all ≡ fields_bytes (fields_in all)
  pub spelled : SpellsFields (fields_in all) all
  pub each : HasParts parts (fields_in all)
