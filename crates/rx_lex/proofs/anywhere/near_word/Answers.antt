use Rattle.std.proofs.Common.{refl, ◌+◌, length}
use Rattle.memchr.specs.Find.{is_byte3}
use Rattle.rx_lex.specs.Anywhere.{has_word}
use Rattle.rx_lex.proofs.LetterLemmas.{reads_without, without_any, without_found}
use Rattle.rx_lex.proofs.PieceLemmas.{word_passes}
use Rattle.rx_lex.proofs.anywhere.near_word.Goals as goal

pub returns-in-Some : goal.returns-in-Some
returns-in-Some c =
    let text = c.args.text.now in
    let at = c.args.at in
    reads_without has_word (is_byte3 63 46 92) refl word_passes text at (at + c.in-Some.found)
    (without_found (is_byte3 63 46 92) text at c.in-Some.found c.requires c.in-Some.ensures.0)

pub returns-in-None : goal.returns-in-None
returns-in-None c =
    let text = c.args.text.now in
    reads_without has_word (is_byte3 63 46 92) refl word_passes text c.args.at (length text) (without_any (is_byte3 63 46 92) text c.args.at c.requires c.in-None.ensures)
