use Rattle.rx_lex.proofs.QuietLemmas.{word_nowhere, word_found, found_within}
use Rattle.rx_lex.proofs.quiet.next_word.Goals as goal

pub returns-in-Some-clause-absent : goal.returns-in-Some-clause-absent
returns-in-Some-clause-absent c =
    word_found c.args.text.now c.args.word.now c.args.at c.in-Some.found c.requires.on c.in-Some.ensures.0

pub returns-in-Some-clause-within : goal.returns-in-Some-clause-within
returns-in-Some-clause-within c =
    found_within c.args.text.now c.args.word.now c.args.at c.in-Some.found c.requires.on c.in-Some.ensures.1

pub returns-in-None-clause-absent : goal.returns-in-None-clause-absent
returns-in-None-clause-absent c = word_nowhere c.args.text.now c.args.word.now c.args.at c.requires.on c.in-None.ensures
