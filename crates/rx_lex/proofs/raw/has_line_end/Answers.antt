use Rattle.std.proofs.Common.{◌∙◌}
use Rattle.rx_lex.specs.Letters.{letters_at, letter_before}
use Rattle.rx_lex.proofs.RawLemmas.{line_more}
use Rattle.rx_lex.proofs.raw.has_line_end.Goals as goal

pub loop-left-preserved : goal.loop-left-preserved
loop-left-preserved c =
    let text = c.args.text.now in
    let passed = c.in-Some.ensures in
    record {
      same = c.loop-left.invariant.same ∙ line_more c.loop-left.left (letter_before text c.in-Some.byte c.in-Some.next) (letters_at text c.loop-left.at)
          (letters_at text c.in-Some.next) c.loop-left-test.true passed.is c.if-byte-eq10.false;
      within = passed.within;
    }
