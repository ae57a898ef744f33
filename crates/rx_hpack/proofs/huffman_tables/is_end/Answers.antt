use Rattle.std.proofs.Common.{◌∙◌}
use Rattle.rx_hpack.proofs.HuffmanTableLemmas.{end_says}
use Rattle.rx_hpack.proofs.huffman_tables.is_end.Goals as goal

pub returns : goal.returns
returns c = c.contains.ensures.value ∙ end_says c.args.state c.ranges.state.fits
