use Rattle.rx_lex.proofs.LetterLemmas.{next_plain}
use Rattle.rx_lex.proofs.letters.letter.Goals as goal

pub returns-then-byte-ne92 : goal.returns-then-byte-ne92
returns-then-byte-ne92 c = next_plain c.args.text.now c.args.at c.if-at-text.true c.if-byte-ne92.true
