use Rattle.std.proofs.Common.{subst, sym, refl, arith}
use Rattle.rx_lex.specs.Cut.{Fits}
use Rattle.rx_lex.specs.declared.cut.Cut.{Cut}
use Rattle.rx_lex.specs.declared.cut.Kind.TheVariants as code
use Rattle.rx_lex.proofs.FitLemmas.{fits_plain}
use Rattle.rx_lex.proofs.comment.block_cut.Goals as goal

pub returns-in-Some-clause-fits : goal.returns-in-Some-clause-fits
returns-in-Some-clause-fits c =
    subst (λ (cut : Cut). Fits c.args.text.now 47 c.args.next cut) (sym c.plain.ensures)
    (fits_plain c.args.text.now 47 c.args.next code.Comment c.in-Some.end refl (omega (arith, c.in-Some.ensures.1)) c.in-Some.ensures.2 refl refl refl refl refl refl)
