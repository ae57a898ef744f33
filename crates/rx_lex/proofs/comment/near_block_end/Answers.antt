use Rattle.std.proofs.Common.{refl}
use Rattle.memchr.specs.Find.{is_byte2}
use Rattle.rx_lex.specs.Pieces.{behind_block}
use Rattle.rx_lex.proofs.LetterLemmas.{reads_without}
use Rattle.rx_lex.proofs.PieceLemmas.{block_passes}
use Rattle.rx_lex.proofs.comment.near_block_end.Goals as goal

pub returns : goal.returns
returns c = reads_without behind_block (is_byte2 42 92) refl block_passes c.args.text.now c.args.at c.skip_to.result c.skip_to.ensures
