use Rattle.std.proofs.Common.{sym, ap, ◌∙◌, Some}
use Rattle.rx_lex.specs.Letters.{letters_at}
use Rattle.rx_lex.specs.Pieces.{Front}
use Rattle.rx_lex.proofs.FitLemmas.{raw_none, raw_some}
use Rattle.rx_lex.proofs.raw_cut.raw_cut.Goals as goal

pub returns-in_default-clause-value : goal.returns-in_default-clause-value
returns-in_default-clause-value c = raw_none c.args.first (letters_at c.args.text.now c.args.next) c.in_default.ensures

pub returns-clause-value : goal.returns-clause-value
returns-clause-value c =
    let prefix = c.in-Some.ensures in
    raw_some c.args.first (letters_at c.args.text.now c.args.next) (letters_at c.args.text.now c.in-Some.behind) c.in-Some.skipped prefix.0 prefix.1 prefix.2
    ∙ ap (λ (f : Front). Some f) (c.raw_end-body.ensures.value ∙ sym c.raw_body_cut.ensures.value)
