use Rattle.std.proofs.Common.{◌≡◌, ◌++◌, take}
use Rattle.rx_codec.specs.Contents.{texts_put}
use Rattle.rx_codec.specs.FieldBytes.{numbered}
use Rattle.rx_codec.proofs.writer.Writer.push_texts.Given as goal

abbrev pub invariant-loop-value : goal.invariant-loop-value
invariant-loop-value g l = l.self ≡ l.fn.self ++ numbered l.number (texts_put (take l.value-index l.values))
