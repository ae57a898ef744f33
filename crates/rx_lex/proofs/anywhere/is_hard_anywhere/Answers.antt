use Rattle.std.proofs.Common.{refl, ◌∙◌, true, false}
use Rattle.rx_lex.specs.Letters.{letters_at}
use Rattle.rx_lex.specs.Directives.{has_lone_return}
use Rattle.rx_lex.proofs.AnywhereLemmas.{anywhere_is}
use Rattle.rx_lex.proofs.anywhere.is_hard_anywhere.Goals as goal

pub returns-then-has_word : goal.returns-then-has_word
returns-then-has_word c =
    let ls = letters_at c.args.text.now c.args.from in
    c.if-has_word.true ∙ anywhere_is ls true (has_lone_return ls) c.if-has_word.ensures refl

pub returns-else-has_word : goal.returns-else-has_word
returns-else-has_word c = anywhere_is (letters_at c.args.text.now c.args.from) false c.has_lone_return.result c.if-has_word.ensures c.has_lone_return.ensures
