use Rattle.std.proofs.Common.{◌≡◌, take}
use Rattle.rx_codec.specs.Contents.{number_in}
use Rattle.rx_codec.specs.FieldBytes.{contents}
use Rattle.rx_codec.specs.Seen.{seen}
use Rattle.rx_codec.proofs.chunks.last_number.Given as goal

abbrev pub invariant-loop-field : goal.invariant-loop-field
invariant-loop-field l = l.last ≡ number_in (contents l.number (seen (take l.field-index l.fields)))
