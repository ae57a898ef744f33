use Rattle.std.proofs.Common.{subst, sym}
use Rattle.rx_lex.specs.Cut.{Fits}
use Rattle.rx_lex.specs.declared.cut.Cut.{Cut}
use Rattle.rx_lex.proofs.FitLemmas.{fits_word, name_plain}
use Rattle.rx_lex.proofs.piece.word_cut.Goals as goal

pub returns-then-is_name-clause-fits : goal.returns-then-is_name-clause-fits
returns-then-is_name-clause-fits c =
    let first = c.args.first in
    subst (λ (cut : Cut). Fits c.args.text.now first c.args.next cut) (sym c.plain.ensures)
    (fits_word c.args.text.now first c.args.next c.run_end.result (name_plain first (sym c.if-is_name.ensures)) c.run_end.ensures.on c.run_end.ensures.within c.run_end.ensures.is)
