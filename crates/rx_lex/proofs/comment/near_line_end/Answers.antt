use Rattle.std.proofs.Common.{refl}
use Rattle.memchr.specs.Find.{is_byte2}
use Rattle.rx_lex.specs.Pieces.{behind_line}
use Rattle.rx_lex.proofs.LetterLemmas.{reads_without}
use Rattle.rx_lex.proofs.PieceLemmas.{line_passes}
use Rattle.rx_lex.proofs.comment.near_line_end.Goals as goal

pub returns : goal.returns
returns c = reads_without behind_line (is_byte2 10 92) refl line_passes c.args.text.now c.args.at c.skip_to.result c.skip_to.ensures
