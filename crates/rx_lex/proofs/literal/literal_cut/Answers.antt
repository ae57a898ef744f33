use Rattle.std.proofs.Common.{◌≡◌, ◌≢◌, ◌⊎◌, ℕ, subst, sym, refl, ◌∙◌, arith}
use Rattle.rx_lex.specs.Cut.{Fits}
use Rattle.rx_lex.specs.declared.cut.Cut.{Cut}
use Rattle.rx_lex.specs.declared.cut.Kind.TheVariants as code
use Rattle.rx_lex.proofs.FitLemmas.{IsPlain, fits_open, fits_plain}
use Rattle.rx_lex.proofs.literal.literal_cut.Goals as goal

quote_plain : (b : ℕ) → ((b ≢ 34) × (b ≡ 39)) ⊎ (b ≡ 34) → IsPlain b
quote_plain b h = grind arith

pub returns-then-whole-clause-fits : goal.returns-then-whole-clause-fits
returns-then-whole-clause-fits c =
    let first = c.args.first in
    let end = c.literal_end-whole.ensures in
    subst (λ (cut : Cut). Fits c.args.text.now first c.args.next cut) (sym c.plain.ensures)
    (fits_plain c.args.text.now first c.args.next code.Literal c.literal_end-whole.result.1 (quote_plain first c.else-first-ne34.either) end.on end.within
    refl refl refl refl refl refl)

pub returns-clause-fits : goal.returns-clause-fits
returns-clause-fits c =
    let text = c.args.text.now in
    let first = c.args.first in
    let found = c.literal_end-whole in
    fits_open text first c.args.next c.has_comment-hard.result found.result.1 (quote_plain first c.else-first-ne34.either) found.ensures.on found.ensures.within
    (found.ensures.value ∙ rw c.if-whole.false refl) c.has_comment-hard.ensures
