use Rattle.std.proofs.Common.{subst, sym, refl}
use Rattle.rx_lex.specs.Letters.{letters_at}
use Rattle.rx_lex.specs.Cut.{Fits}
use Rattle.rx_lex.specs.declared.cut.Cut.{Cut}
use Rattle.rx_lex.specs.declared.cut.Kind.TheVariants as code
use Rattle.rx_lex.proofs.FitLemmas.{fits_plain, number_plain}
use Rattle.rx_lex.specs.Pieces.{begins_digit}
use Rattle.rx_lex.proofs.number.number_cut.Goals as goal

pub returns-then-begins_number-clause-fits : goal.returns-then-begins_number-clause-fits
returns-then-begins_number-clause-fits c =
    let first = c.args.first in
    subst (λ (cut : Cut). Fits c.args.text.now first c.args.next cut) (sym c.plain.ensures)
    (fits_plain c.args.text.now first c.args.next code.Number c.number_end.result (number_plain first (begins_digit (letters_at c.args.text.now c.args.next)) (sym c.if-begins_number.ensures)) c.number_end.ensures.on c.number_end.ensures.within refl refl refl refl refl refl)
