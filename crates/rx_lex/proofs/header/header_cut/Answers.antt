use Rattle.std.proofs.Common.{ℕ, subst, sym, refl, true, false, Option}
use Rattle.rx_lex.specs.Letters.{MaybeReaches, letters_at}
use Rattle.rx_lex.specs.Pieces.{behind_header}
use Rattle.rx_lex.specs.Cut.{Fits}
use Rattle.rx_lex.specs.declared.cut.Cut.{Cut}
use Rattle.rx_lex.specs.declared.cut.Kind.TheVariants as code
use Rattle.rx_lex.proofs.FitLemmas.{fits_header}
use Rattle.rx_lex.proofs.header.header_cut.Goals as goal

pub returns-in-Some-clause-fits : goal.returns-in-Some-clause-fits
returns-in-Some-clause-fits c =
    let text = c.args.text.now in
    let end = c.in-Some.end in
    let found = subst (λ (place : Option ℕ). MaybeReaches text c.args.next place (behind_header 62 (letters_at text c.args.next))) c.in-Some.is c.angled_end-end.ensures.value in
    subst (λ (cut : Cut). Fits text c.args.first c.args.next cut) (sym c.plain.ensures)
    (subst (λ (first : ℕ). Fits text first c.args.next (record { kind = code.Header; whole = true; hard = false; end = end })) (sym c.if-first-eq60.true)
    (fits_header text 60 c.args.next end refl found.1 found.2 found.0))

pub returns-in-Some-header_end-clause-fits : goal.returns-in-Some-header_end-clause-fits
returns-in-Some-header_end-clause-fits c =
    let text = c.args.text.now in
    let found = c.in-Some-header_end.ensures in
    let end = c.in-Some-header_end.end in
    subst (λ (cut : Cut). Fits text c.args.first c.args.next cut) (sym c.plain-in-Some-header_end.ensures)
    (subst (λ (first : ℕ). Fits text first c.args.next (record { kind = code.Header; whole = true; hard = false; end = end })) (sym c.if-first-eq34.true)
    (fits_header text 34 c.args.next end refl found.1 found.2 found.0))
