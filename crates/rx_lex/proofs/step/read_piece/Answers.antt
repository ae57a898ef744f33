use Rattle.std.proofs.Common.{◌||◌, refl, ap, Bool}
use Rattle.rx_lex.proofs.StepLemmas.{steps}
use Rattle.rx_lex.proofs.step.read_piece.Goals as goal

pub returns : goal.returns
returns c =
    let cut = c.next_cut-barren.result.0 in
    let hard : Bool = cut.hard || c.is_hard_behind-hard.result in
    steps c.args.text.now c.args.line c.args.first c.args.next cut
    (record { end = cut.end; line = c.behind.result; hard = hard; raw = c.is_raw.result; barren = c.next_cut-barren.result.1; name = c.in_ok-name.name })
    c.next_cut-barren.ensures.value c.next_cut-barren.ensures.fits c.next_cut-barren.ensures.known refl c.in_ok-name.ensures (ap (λ (b : Bool). cut.hard || b) c.is_hard_behind-hard.ensures)
    c.is_raw.ensures c.behind.ensures
