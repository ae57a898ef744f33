use Rattle.std.specs.Str.{IsUtf8}
use Rattle.rx_codec.proofs.SliceLemmas.{each_at}
use Rattle.rx_codec.proofs.chunks.texts_of.Goals as goal

pub unwrap-requires : goal.unwrap-requires
unwrap-requires c = c.text_of.ensures.exact.1 (each_at IsUtf8 _ _ _ c.loop-piece-test.true c.requires)
