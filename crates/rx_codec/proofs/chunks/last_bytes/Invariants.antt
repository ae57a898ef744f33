use Rattle.std.proofs.Common.{◌≡◌, take}
use Rattle.rx_codec.specs.Contents.{text_in}
use Rattle.rx_codec.specs.FieldBytes.{contents}
use Rattle.rx_codec.specs.Seen.{seen}
use Rattle.rx_codec.proofs.chunks.last_bytes.Given as goal

abbrev pub invariant-loop-field : goal.invariant-loop-field
invariant-loop-field l = l.last ≡ text_in (contents l.number (seen (take l.field-index l.fields)))
