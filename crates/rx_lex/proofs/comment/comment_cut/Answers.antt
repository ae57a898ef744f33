use Rattle.std.proofs.Common.{ℕ, subst, sym, refl, ap, arith, ◌==◌, ◌||◌}
use Rattle.rx_lex.specs.Cut.{Fits}
use Rattle.rx_lex.specs.declared.cut.Cut.{Cut}
use Rattle.rx_lex.specs.declared.cut.Kind.TheVariants as code
use Rattle.rx_lex.proofs.FitLemmas.{fits_plain}
use Rattle.rx_lex.proofs.comment.comment_cut.Goals as goal

pub returns-then-second-eq42-clause-fits : goal.returns-then-second-eq42-clause-fits
returns-then-second-eq42-clause-fits c =
    subst (λ (first : ℕ). Fits c.args.text.now first c.args.next c.block_cut.result) (sym c.if-first-ne47.false) c.block_cut.ensures.fits

pub returns-then-second-eq47-clause-fits : goal.returns-then-second-eq47-clause-fits
returns-then-second-eq47-clause-fits c =
    let first = c.args.first in
    subst (λ (cut : Cut). Fits c.args.text.now first c.args.next cut) (sym c.plain.ensures)
    (fits_plain c.args.text.now first c.args.next code.Comment c.line_end.result (ap (λ (b : ℕ). b == 35 || b == 37 || b == 40) c.if-first-ne47.false) (omega (arith, c.in-Some.ensures.on, c.line_end.ensures.on)) c.line_end.ensures.within refl refl refl refl refl refl)
