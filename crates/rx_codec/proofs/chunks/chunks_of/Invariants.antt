use Rattle.std.proofs.Common.{◌≡◌, take}
use Rattle.rx_base.specs.Texts.{texts as slices}
use Rattle.rx_codec.specs.Contents.{chunks}
use Rattle.rx_codec.specs.FieldBytes.{contents}
use Rattle.rx_codec.specs.Seen.{seen}
use Rattle.rx_codec.proofs.chunks.chunks_of.Given as goal

abbrev pub invariant-loop-field : goal.invariant-loop-field
invariant-loop-field l = slices l.found.items ≡ chunks (contents l.number (seen (take l.field-index l.fields)))
