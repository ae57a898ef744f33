use Rattle.rx_lex.proofs.QuietLemmas.{line_found}
use Rattle.rx_lex.proofs.quiet.last_line_end.Goals as goal

pub returns-in-Some : goal.returns-in-Some
returns-in-Some c =
    line_found c.args.text.now c.args.from c.args.to c.in-Some.found c.requires.on c.requires.within c.in-Some.ensures.0.high c.in-Some.ensures.1
