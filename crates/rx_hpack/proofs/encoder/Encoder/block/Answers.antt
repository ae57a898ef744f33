use Rattle.rx_hpack.proofs.EncoderLemmas.{meant, read_back}
use Rattle.rx_hpack.proofs.encoder.Encoder.block.Goals as goal

pub returns-clause-meant : goal.returns-clause-meant
returns-clause-meant c = meant c.args.headers.now c.write_block.result c.requires c.write_block.ensures

pub returns-clause-read_back : goal.returns-clause-read_back
returns-clause-read_back c = read_back c.args.headers.now c.write_block.result c.requires c.write_block.ensures
