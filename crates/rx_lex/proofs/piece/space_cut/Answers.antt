use Rattle.std.proofs.Common.{subst, sym, refl}
use Rattle.rx_lex.specs.Cut.{Fits}
use Rattle.rx_lex.specs.declared.cut.Cut.{Cut}
use Rattle.rx_lex.specs.declared.cut.Kind.TheVariants as code
use Rattle.rx_lex.proofs.FitLemmas.{fits_plain, blank_plain}
use Rattle.rx_lex.proofs.piece.space_cut.Goals as goal

pub returns-then-is_blank-clause-fits : goal.returns-then-is_blank-clause-fits
returns-then-is_blank-clause-fits c =
    let first = c.args.first in
    subst (λ (cut : Cut). Fits c.args.text.now first c.args.next cut) (sym c.plain-then-is_blank.ensures)
    (fits_plain c.args.text.now first c.args.next code.Blank c.run_end.result (blank_plain first (sym c.if-is_blank.ensures)) c.run_end.ensures.on c.run_end.ensures.within refl refl refl refl refl refl)
