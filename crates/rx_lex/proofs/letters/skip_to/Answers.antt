use Rattle.memchr.specs.Find.{is_byte2}
use Rattle.rx_lex.proofs.LetterLemmas.{without_found, without_any}
use Rattle.rx_lex.proofs.letters.skip_to.Goals as goal

pub returns-in-Some : goal.returns-in-Some
returns-in-Some c = without_found (is_byte2 c.args.byte 92) c.args.text.now c.args.at c.in-Some.found c.requires c.in-Some.ensures.0

pub returns-in-None : goal.returns-in-None
returns-in-None c = without_any (is_byte2 c.args.byte 92) c.args.text.now c.args.at c.requires c.in-None.ensures
