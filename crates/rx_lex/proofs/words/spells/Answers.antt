use Rattle.std.proofs.Common.{sym, ◌∙◌, ap}
use Rattle.rx_lex.specs.Letters.{letters_at}
use Rattle.rx_lex.specs.Pieces.{all_at_front, begins_name, is_name}
use Rattle.rx_lex.proofs.TextLemmas.{same_none, splits_is, splits_not, splits_other}
use Rattle.rx_lex.proofs.words.spells.Goals as goal

pub returns-in_default : goal.returns-in_default
returns-in_default c =
    sym (same_none c.args.first (all_at_front is_name (letters_at c.args.text.now c.args.next)) c.args.word.now c.in_default.ensures.cases)

pub returns-then-first-head : goal.returns-then-first-head
returns-then-first-head c =
    let word = c.in-Some in
    sym (splits_other c.args.first word.head.now c.args.word.now word.tail.now (letters_at c.args.text.now c.args.next) word.ensures.cases.0 c.if-first-head.true)

pub returns-in-Some-begins : goal.returns-in-Some-begins
returns-in-Some-begins c =
    let word = c.in-Some in
    let begun = c.in-Some-begins.ensures in
    sym (splits_is c.args.first word.head.now c.args.word.now word.tail.now (letters_at c.args.text.now c.args.next) c.next_is_name.result
    word.ensures.cases.0 c.if-first-head.false c.requires.names begun.0 (c.next_is_name.ensures ∙ ap begins_name begun.1))

pub returns-in-None : goal.returns-in-None
returns-in-None c =
    let word = c.in-Some in
    sym (splits_not c.args.first word.head.now c.args.word.now word.tail.now (letters_at c.args.text.now c.args.next) word.ensures.cases.0 c.in-None.ensures)
