use Rattle.std.proofs.Common.{refl}
use Rattle.memchr.specs.Find.{is_byte2}
use Rattle.rx_lex.specs.Directives.{has_lone_return}
use Rattle.rx_lex.proofs.LetterLemmas.{reads_without}
use Rattle.rx_lex.proofs.PieceLemmas.{return_passes}
use Rattle.rx_lex.proofs.anywhere.near_return.Goals as goal

pub returns : goal.returns
returns c = reads_without has_lone_return (is_byte2 13 92) refl return_passes c.args.text.now c.args.at c.skip_to.result c.skip_to.ensures
