use Rattle.std.proofs.Common.{◌≡◌, sym, ◌+◌, arith, Bool, not, true, false}
use Rattle.rx_lex.proofs.FitLemmas.{raw_bad, raw_split, raw_whole}
use Rattle.rx_lex.proofs.raw_cut.raw_body_cut.Goals as goal

is_whole : (b : Bool) → not b ≡ false → b ≡ true
is_whole b h = grind arith

pub returns-then-not-body-clause-fits : goal.returns-then-not-body-clause-fits
returns-then-not-body-clause-fits c = raw_bad c.args.text.now c.args.first c.args.next c.args.body.end c.requires.begun c.requires.on c.requires.within

pub returns-then-is_split_behind-clause-fits : goal.returns-then-is_split_behind-clause-fits
returns-then-is_split_behind-clause-fits c =
    let body = c.args.body in
    raw_split c.args.text.now c.args.first c.args.next (c.args.skipped + body.letters) body.end c.requires.begun c.requires.on c.requires.within
    (omega (arith, c.requires.skips)) (c.requires.counted (is_whole body.whole c.if-not-body.false)) (sym c.if-is_split_behind.ensures)

pub returns-clause-fits : goal.returns-clause-fits
returns-clause-fits c =
    let body = c.args.body in
    raw_whole c.args.text.now c.args.first c.args.next (c.args.skipped + body.letters) body.end c.has_line_end-over_lines.result
    c.requires.begun c.requires.on c.requires.within (omega (arith, c.requires.skips)) (c.requires.counted (is_whole body.whole c.if-not-body.false))
    (sym c.if-is_split_behind.ensures) c.has_line_end-over_lines.ensures
